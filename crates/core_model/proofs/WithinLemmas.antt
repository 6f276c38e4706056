-- How many blocks of a list have a word: none or one where they lie apart.
use Rattle.std.proofs.Common.{◌≡◌, ℕ, zero, suc, ◌+◌, ◌<◌, ◌≤◌, inl, inr, Bool, true, false, ◌&&◌, nat_eq, nat_lt, nat_le, List, [], ◌∷◌, get_or, refl, ap, subst, leb-true, ltb-true, le-leb, lt-ltb, arith}
use Rattle.std.proofs.lemmas.Bool.{cases_eq, cases_lt}
use Rattle.heap_model.specs.Sizes.{words_of_class}
use Rattle.heap_model.specs.Counting.{times, total, one_if}
use Rattle.heap_model.proofs.CountingLemmas.{one_if_true}
use Rattle.core_model.specs.View.{times_within, times_in_classes}
use Rattle.core_model.proofs.TotalLemmas.{eq-eqb-one, ne-eqb-none}
use Rattle.core_model.proofs.PlaceLemmas.{and_both, and_is}
use Rattle.heap_model.proofs.ListLemmas.{one_at_most}

-- the word is one of the block's
pub record IsWithin (words word b : ℕ) : Type 0 where
  pub from : b ≤ word
  pub until : word < b + words

-- entries that have the word are all one block
pub within_most : (words word b0 : ℕ) (bs : List ℕ) → ((b : ℕ) → 0 < times b bs → IsWithin words word b → b ≡ b0)
    → times_within words word bs ≤ times b0 bs
within_most words word b0 [] same = omega arith
within_most words word b0 (b ∷ bs) same =
    let rest = within_most words word b0 bs (λ c some. same c (omega arith)) in
    let here = by_test (nat_le b word && nat_lt word (b + words)) refl in omega arith where
      by_test : (test : Bool) → (nat_le b word && nat_lt word (b + words)) ≡ test
          → one_if (nat_le b word && nat_lt word (b + words)) ≤ one_if (nat_eq b b0)
      by_test true e =
          let both = and_both (nat_le b word) (nat_lt word (b + words)) e in
          let is = same b (let one = eq-eqb-one b b refl in omega arith)
          (record { from = leb-true b word both.0; until = ltb-true word (b + words) both.1 }) in
          let one = eq-eqb-one b b0 is in let most = one_at_most (nat_le b word && nat_lt word (b + words)) in omega arith
      by_test false e = let none = ap one_if e in omega arith

pub in_classes_most : (word b0 class : ℕ) (lists : List (List ℕ)) → ((n b : ℕ) → 0 < times b (get_or lists n [])
    → IsWithin (words_of_class (class + n)) word b → b ≡ b0) → times_in_classes word class lists ≤ total (times b0) lists
in_classes_most word b0 class [] same = omega arith
in_classes_most word b0 class (bs ∷ lists) same =
    let here = within_most (words_of_class class) word b0 bs (λ b some within. same 0 b some
    (subst (λ c. IsWithin (words_of_class c) word b) (let e : class ≡ class + 0 = omega arith in e) within)) in
    let rest = in_classes_most word b0 (class + 1) lists (λ n b some within. same (suc n) b some
    (subst (λ c. IsWithin (words_of_class c) word b) (let e : class + 1 + n ≡ class + suc n = omega arith in e) within)) in omega arith

-- an entry that has the word, where there is one
pub record HasWithin (words word : ℕ) (bs : List ℕ) : Type 0 where
  pub b : ℕ
  pub there : 0 < times b bs
  pub within : IsWithin words word b

pub some_within : (words word : ℕ) (bs : List ℕ) → 0 < times_within words word bs → HasWithin words word bs
some_within words word [] some = absurd (omega arith)
some_within words word (b ∷ bs) some = by_test (nat_le b word && nat_lt word (b + words)) refl (λ more. some_within words word bs more) where
  by_test : (test : Bool) → (nat_le b word && nat_lt word (b + words)) ≡ test → (0 < times_within words word bs → HasWithin words word bs)
      → HasWithin words word (b ∷ bs)
  by_test true e rest = let both = and_both (nat_le b word) (nat_lt word (b + words)) e in
      record {
        b = b;
        there = (let one = eq-eqb-one b b refl in omega arith);
        within = record { from = leb-true b word both.0; until = ltb-true word (b + words) both.1 };
      }
  by_test false e rest = let r = rest (let none = ap one_if e in omega arith) in
      record { b = r.b; there = (let t = r.there in omega arith); within = r.within }

pub record HasWithinClass (word class : ℕ) (lists : List (List ℕ)) : Type 0 where
  pub n : ℕ
  pub b : ℕ
  pub there : 0 < times b (get_or lists n [])
  pub within : IsWithin (words_of_class (class + n)) word b

pub some_in_classes : (word class : ℕ) (lists : List (List ℕ)) → 0 < times_in_classes word class lists → HasWithinClass word class lists
some_in_classes word class [] some = absurd (omega arith)
some_in_classes word class (bs ∷ lists) some = elim (cases_lt 0 (times_within (words_of_class class) word bs)) [
  | inl here ↦ let h = some_within (words_of_class class) word bs here in
      record {
        n = 0;
        b = h.b;
        there = h.there;
        within = subst (λ c. IsWithin (words_of_class c) word h.b)
            (let e : class ≡ class + 0 = omega arith in e) h.within;
      }
  | inr none ↦ let h = some_in_classes word (class + 1) lists (omega arith) in
      record {
        n = suc h.n;
        b = h.b;
        there = h.there;
        within = subst (λ c. IsWithin (words_of_class c) word h.b)
            (let e : class + 1 + h.n ≡ class + suc h.n = omega arith in e) h.within;
      }
]

-- an entry has its own first word
pub within_own : (words b : ℕ) (bs : List ℕ) → 0 < words → 0 < times b bs → 0 < times_within words b bs
within_own words b [] some there = absurd (omega arith)
within_own words b (x ∷ bs) some there = elim (cases_eq x b) as (λ _. 0 < one_if (nat_le x b && nat_lt b (x + words)) + times_within words b bs) [
  | inl same ↦ let one : one_if (nat_le x b && nat_lt b (x + words)) ≡ 1 =
      one_if_true (nat_le x b && nat_lt b (x + words)) (and_is (nat_le x b) (nat_lt b (x + words)) (le-leb x b (omega (arith, same)))
      (lt-ltb b (x + words) (omega (arith, same)))) in omega arith
  | inr other ↦ let none = ne-eqb-none x b other in let rest = within_own words b bs some (omega arith) in omega arith
]

pub in_classes_own : (b class n : ℕ) (lists : List (List ℕ)) → 0 < words_of_class (class + n) → 0 < times b (get_or lists n [])
    → 0 < times_in_classes b class lists
in_classes_own b class n [] some there = absurd (omega arith)
in_classes_own b class zero (bs ∷ lists) some there = let here =
    within_own (words_of_class class) b bs (subst (λ c. 0 < words_of_class c) (let e : class + 0 ≡ class = omega arith in e) some) there in omega arith
in_classes_own b class (suc n) (bs ∷ lists) some there = let rest =
    in_classes_own b (class + 1) n lists (subst (λ c. 0 < words_of_class c) (let e : class + suc n ≡ class + 1 + n = omega arith in e) some)
    there in omega arith
