-- What a choice takes of lists and what it leaves add up to the whole.
use Rattle.std.proofs.Common.{◌≡◌, ◌≢◌, ℕ, zero, suc, ◌+◌, ◌<◌, ◌≤◌, inl, inr, Bool, true, false, cond, not, nat_eq, List, [], ◌∷◌, ◌++◌, Contains, get_or, length, refl, ap, sym, subst, ◌∙◌, eqb-true, ne_eqb, length-append, true≢false, arith}
use Rattle.std.proofs.lemmas.Bool.{cases_lt}
use Rattle.std.proofs.lemmas.List.{get_or_append_left}
use Rattle.heap_model.specs.Counting.{times, total, one_if}
use Rattle.heap_model.proofs.MemberLemmas.{in_head, in_rest, head_or_rest}
use Rattle.core_model.specs.View.{View, Span, takes, times_large}
use Rattle.core_model.specs.Effects.{span_count}
use Rattle.core_model.specs.Splitting.{chosen, chosen_spans, chosen_lists}
use Rattle.core_model.specs.Sound.{Each}
use Rattle.core_model.proofs.TotalLemmas.{ne-eqb-none}

-- what goes and what stays is all
pub chosen_both : (test : ℕ → Bool) (n : ℕ) (xs : List ℕ) → times n (chosen (λ x. not (test x)) xs) + times n (chosen test xs) ≡ times n xs
chosen_both test n [] = refl
chosen_both test n (x ∷ xs) = by_test (test x) (chosen_both test n xs) where
  by_test : (t : Bool) → times n (chosen (λ y. not (test y)) xs) + times n (chosen test xs) ≡ times n xs
      → times n (cond (not t) (x ∷ chosen (λ y. not (test y)) xs) (chosen (λ y. not (test y)) xs)) + times n
      (cond t (x ∷ chosen test xs) (chosen test xs)) ≡ one_if (nat_eq x n) + times n xs
  by_test true rest = omega arith
  by_test false rest = omega arith

pub chosen_less : (test : ℕ → Bool) (n : ℕ) (xs : List ℕ) → times n (chosen test xs) ≤ times n xs
chosen_less test n [] = omega arith
chosen_less test n (x ∷ xs) = by_test (test x) (chosen_less test n xs) where
  by_test : (t : Bool) → times n (chosen test xs) ≤ times n xs → times n (cond t (x ∷ chosen test xs) (chosen test xs)) ≤ one_if
      (nat_eq x n) + times n xs
  by_test true rest = omega arith
  by_test false rest = omega arith

pub lists_both : (test : ℕ → Bool) (n : ℕ) (xss : List (List ℕ))
    → total (times n) (chosen_lists (λ x. not (test x)) xss) + total (times n) (chosen_lists test xss) ≡ total (times n) xss
lists_both test n [] = refl
lists_both test n (xs ∷ xss) = let here = chosen_both test n xs in let rest = lists_both test n xss in omega arith

pub lists_less : (test : ℕ → Bool) (n class : ℕ) (xss : List (List ℕ))
    → times n (get_or (chosen_lists test xss) class []) ≤ times n (get_or xss class [])
lists_less test n class [] = omega arith
lists_less test n zero (xs ∷ xss) = chosen_less test n xs
lists_less test n (suc class) (xs ∷ xss) = lists_less test n class xss

-- of one number nothing else is chosen, and all of it
only_it : (b n : ℕ) (xs : List ℕ) → n ≢ b → times n (chosen (λ x. nat_eq x b) xs) ≡ 0
only_it b n [] other = refl
only_it b n (x ∷ xs) other = by_test (nat_eq x b) refl (only_it b n xs other) where
  by_test : (t : Bool) → nat_eq x b ≡ t → times n (chosen (λ y. nat_eq y b) xs) ≡ 0
      → times n (cond t (x ∷ chosen (λ y. nat_eq y b) xs) (chosen (λ y. nat_eq y b) xs)) ≡ 0
  by_test true e rest = let z = ne-eqb-none x n (λ same. other (sym same ∙ eqb-true x b e)) in omega arith
  by_test false e rest = rest

pub all_of_it : (b : ℕ) (xs : List ℕ) → times b (chosen (λ x. nat_eq x b) xs) ≡ times b xs
all_of_it b [] = refl
all_of_it b (x ∷ xs) = by_test (nat_eq x b) refl (all_of_it b xs) where
  by_test : (t : Bool) → nat_eq x b ≡ t → times b (chosen (λ y. nat_eq y b) xs) ≡ times b xs
      → times b (cond t (x ∷ chosen (λ y. nat_eq y b) xs) (chosen (λ y. nat_eq y b) xs)) ≡ one_if (nat_eq x b) + times b xs
  by_test true e rest = omega arith
  by_test false e rest = let z = ap one_if e in omega arith

pub lists_only : (b n : ℕ) (xss : List (List ℕ)) → n ≢ b → total (times n) (chosen_lists (λ x. nat_eq x b) xss) ≡ 0
lists_only b n [] other = refl
lists_only b n (xs ∷ xss) other = let here = only_it b n xs other in let rest = lists_only b n xss other in omega arith

pub lists_all : (b : ℕ) (xss : List (List ℕ)) → total (times b) (chosen_lists (λ x. nat_eq x b) xss) ≡ total (times b) xss
lists_all b [] = refl
lists_all b (xs ∷ xss) = let here = all_of_it b xs in let rest = lists_all b xss in omega arith

pub length_lists : (test : ℕ → Bool) (xss : List (List ℕ)) → length (chosen_lists test xss) ≡ length xss
length_lists test [] = refl
length_lists test (xs ∷ xss) = ap suc (length_lists test xss)

pub spans_both : (test : ℕ → Bool) (d : ℕ) (spans : List Span) → times_large d (chosen_spans (λ x. not (test x)) spans) + times_large d
    (chosen_spans test spans) ≡ times_large d spans
spans_both test d [] = refl
spans_both test d (span ∷ spans) = by_test (test span.first) (spans_both test d spans) where
  by_test : (t : Bool) → times_large d (chosen_spans (λ y. not (test y)) spans) + times_large d (chosen_spans test spans) ≡ times_large d spans
      → times_large d (cond (not t) (span ∷ chosen_spans (λ y. not (test y)) spans) (chosen_spans (λ y. not (test y)) spans)) + times_large d
      (cond t (span ∷ chosen_spans test spans) (chosen_spans test spans)) ≡ one_if (takes d span) + times_large d spans
  by_test true rest = omega arith
  by_test false rest = omega arith

pub spans_less : (test : ℕ → Bool) (d : ℕ) (spans : List Span) → times_large d (chosen_spans test spans) ≤ times_large d spans
spans_less test d [] = omega arith
spans_less test d (span ∷ spans) = by_test (test span.first) (spans_less test d spans) where
  by_test : (t : Bool) → times_large d (chosen_spans test spans) ≤ times_large d spans
      → times_large d (cond t (span ∷ chosen_spans test spans) (chosen_spans test spans)) ≤ one_if (takes d span) + times_large d spans
  by_test true rest = omega arith
  by_test false rest = omega arith

pub spans_count : (test : ℕ → Bool) (d : ℕ) (spans : List Span) → 0 < span_count d (chosen_spans test spans)
    → span_count d (chosen_spans test spans) ≡ span_count d spans
spans_count test d spans some = by_first (test d) refl where
  none : test d ≡ false → (ss : List Span) → span_count d (chosen_spans test ss) ≡ 0
  none out [] = refl
  none out (span ∷ ss) = by_test (test span.first) refl (none out ss) where
    by_test : (t : Bool) → test span.first ≡ t → span_count d (chosen_spans test ss) ≡ 0
        → span_count d (cond t (span ∷ chosen_spans test ss) (chosen_spans test ss)) ≡ 0
    by_test true e rest = ap (λ x. cond x span.count (span_count d (chosen_spans test ss)))
        (ne_eqb span.first d (λ same. true≢false (sym e ∙ ap test same ∙ out))) ∙ rest
    by_test false e rest = rest

  all : test d ≡ true → (ss : List Span) → span_count d (chosen_spans test ss) ≡ span_count d ss
  all is [] = refl
  all is (span ∷ ss) = by_test (test span.first) refl (all is ss) where
    by_test : (t : Bool) → test span.first ≡ t → span_count d (chosen_spans test ss) ≡ span_count d ss
        → span_count d (cond t (span ∷ chosen_spans test ss) (chosen_spans test ss)) ≡ cond (nat_eq span.first d) span.count (span_count d ss)
    by_test true e rest = ap (λ x. cond (nat_eq span.first d) span.count x) rest
    by_test false e rest = rest ∙ sym (ap (λ x. cond x span.count (span_count d ss))
        (ne_eqb span.first d (λ same. true≢false (sym is ∙ ap test (sym same) ∙ e))))

  by_first : (t : Bool) → test d ≡ t → span_count d (chosen_spans test spans) ≡ span_count d spans
  by_first true e = all e spans
  by_first false e = absurd (let z = none e spans in omega arith)

pub spans_in : (test : ℕ → Bool) (spans : List Span) (x : Span) → Contains (chosen_spans test spans) x → Contains spans x
spans_in test [] x p = p
spans_in test (span ∷ spans) x p = by_test (test span.first) p (spans_in test spans x) where
  by_test : (t : Bool) → Contains (cond t (span ∷ chosen_spans test spans) (chosen_spans test spans)) x
      → (Contains (chosen_spans test spans) x → Contains spans x) → Contains (span ∷ spans) x
  by_test true q rest = elim (head_or_rest span x (chosen_spans test spans) q)
      [ inl same ↦ subst (Contains (span ∷ spans)) same (in_head span spans) | inr later ↦ in_rest span x spans (rest later) ]
  by_test false q rest = in_rest span x spans (rest q)

pub total_behind : (f : View → ℕ) (views : List View) (b : View) → total f (views ++ b ∷ []) ≡ total f views + f b
total_behind f [] b = omega arith
total_behind f (v ∷ views) b = let rest = total_behind f views b in omega arith

pub each_behind : (views : List View) (b : View) (P : View → Type 0) → Each views P → P b → Each (views ++ b ∷ []) P
each_behind views b P all own = λ j u below at. elim (cases_lt j (length views)) [
  | inl inside ↦ all j u inside (sym (get_or_append_left views (b ∷ []) u j inside) ∙ at)
  | inr past ↦ subst P (sym (last views j u (let l = length-append views (b ∷ []) in omega arith)) ∙ at) own
] where
  last : (xs : List View) (j : ℕ) (u : View) → j ≡ length xs → get_or (xs ++ b ∷ []) j u ≡ b
  last [] zero u same = refl
  last [] (suc j) u same = absurd (omega (arith, same))
  last (x ∷ xs) zero u same = absurd (omega (arith, same))
  last (x ∷ xs) (suc j) u same = last xs j u (omega (arith, same))
