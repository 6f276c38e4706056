-- What two seats have and know together: blocks by class, large blocks and words.
use Rattle.std.proofs.Common.{◌≡◌, ℕ, zero, suc, ◌+◌, ◌<◌, ◌≤◌, ◌⊎◌, inl, inr, Bool, true, false, cond, nat_eq, List, [], ◌∷◌, ◌++◌, Contains, get_or, length, Option, None, Some, refl, ap, arith}
use Rattle.heap_model.specs.Sizes.{words_of_class}
use Rattle.heap_model.specs.Counting.{times, total}
use Rattle.heap_model.proofs.ListLemmas.{times_append}
use Rattle.heap_model.proofs.MemberLemmas.{in_head, in_rest}
use Rattle.core_model.specs.View.{Span, of_class, times_large, times_in_classes}
use Rattle.core_model.specs.Effects.{span_count}
use Rattle.core_model.specs.Carriers.{both_lists, either_of}
use Rattle.core_model.proofs.ClassListLemmas.{within_append}

pub both_times : (n : ℕ) (xss yss : List (List ℕ)) → total (times n) (both_lists xss yss) ≡ total (times n) xss + total (times n) yss
both_times n [] yss = omega arith
both_times n (xs ∷ xss) [] = omega arith
both_times n (xs ∷ xss) (ys ∷ yss) = let here = times_append n xs ys in let rest = both_times n xss yss in omega arith

pub both_class : (n class : ℕ) (xss yss : List (List ℕ)) → times n (of_class (both_lists xss yss) class) ≡ times n
    (of_class xss class) + times n (of_class yss class)
both_class n class [] yss = omega arith
both_class n zero (xs ∷ xss) [] = omega arith
both_class n (suc class) (xs ∷ xss) [] = omega arith
both_class n zero (xs ∷ xss) (ys ∷ yss) = times_append n xs ys
both_class n (suc class) (xs ∷ xss) (ys ∷ yss) = both_class n class xss yss

pub both_length : (xss yss : List (List ℕ)) → length xss ≡ length yss → length (both_lists xss yss) ≡ length yss
both_length [] yss same = refl
both_length (xs ∷ xss) [] same = same
both_length (xs ∷ xss) (ys ∷ yss) same = let rest = both_length xss yss (omega (arith, same)) in omega arith

pub both_within : (word class : ℕ) (xss yss : List (List ℕ)) → times_in_classes word class
    (both_lists xss yss) ≡ times_in_classes word class xss + times_in_classes word class yss
both_within word class [] yss = omega arith
both_within word class (xs ∷ xss) [] = omega arith
both_within word class (xs ∷ xss) (ys ∷ yss) = let here = within_append (words_of_class class) word xs ys in
    let rest = both_within word (class + 1) xss yss in omega arith

pub large_append : (d : ℕ) (xs ys : List Span) → times_large d (xs ++ ys) ≡ times_large d xs + times_large d ys
large_append d [] ys = omega arith
large_append d (x ∷ xs) ys = let rest = large_append d xs ys in omega arith

-- the first of the spans that begin there is one of either
pub count_append : (d : ℕ) (xs ys : List Span) → ((span : Span) → Contains xs span → 1 ≤ span.count)
    → ((0 < span_count d xs) × (span_count d (xs ++ ys) ≡ span_count d xs)) ⊎ (span_count d (xs ++ ys) ≡ span_count d ys)
count_append d [] ys counted = inr refl
count_append d (x ∷ xs) ys counted = by_test (nat_eq x.first d) (count_append d xs ys (λ span there. counted span (in_rest x span xs there))) where
  by_test : (t : Bool) → ((0 < span_count d xs) × (span_count d (xs ++ ys) ≡ span_count d xs)) ⊎ (span_count d (xs ++ ys) ≡ span_count d ys)
      → ((0 < cond t x.count (span_count d xs)) × (cond t x.count (span_count d (xs ++ ys)) ≡ cond t x.count (span_count d xs))) ⊎
      (cond t x.count (span_count d (xs ++ ys)) ≡ span_count d ys)
  by_test true rest = inl (counted x (in_head x xs), refl)
  by_test false rest = rest

pub either_length : (xs ys : List (Option ℕ)) → length (either_of xs ys) ≡ length ys
either_length [] ys = refl
either_length (x ∷ xs) [] = refl
either_length (x ∷ xs) (y ∷ ys) = ap suc (either_length xs ys)

pub either_at : (xs ys : List (Option ℕ)) (n value : ℕ) → get_or (either_of xs ys) n None ≡ Some value
    → (get_or xs n None ≡ Some value) ⊎ (get_or ys n None ≡ Some value)
either_at [] ys n value e = inr e
either_at (x ∷ xs) [] n value e = inr e
either_at (None ∷ xs) (y ∷ ys) zero value e = inr e
either_at (Some x ∷ xs) (y ∷ ys) zero value e = inl e
either_at (x ∷ xs) (y ∷ ys) (suc n) value e = either_at xs ys n value e
