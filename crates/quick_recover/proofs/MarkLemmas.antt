-- Marks on the members of a list, as it grows.
use Rattle.std.proofs.Common.{◌≡◌, ℕ, zero, suc, ◌+◌, ◌<◌, ◌≤◌, inl, inr, Bool, true, false, List, [], ◌∷◌, ◌++◌, set, length, get_or, replicate, Contains, refl, ap, sym, subst, ◌∙◌, arith}
use Rattle.std.proofs.lemmas.Bool.{cases_eq, false≢true}
use Rattle.std.proofs.lemmas.List.{length-set, get_or-set_same, get_or-set_other, get_or-replicate, length-replicate}
use Rattle.std.proofs.lemmas.List.Elements.{Contains-append_left, Contains-push, Contains-push_cases}
use Rattle.heap_model.specs.Counting.{total, one_if}
use Rattle.heap_model.proofs.MemberLemmas.{in_none}
use Rattle.quick_recover.specs.Anchored.{AreMarks}

-- no member, no mark
pub marks_none : (place : ℕ → ℕ) (count : ℕ) (marks : List Bool) → marks ≡ replicate count false → AreMarks place [] count marks
marks_none place count marks are = subst (AreMarks place [] count) (sym are) (record {
  long = length-replicate count false;
  marked = λ n below is. absurd (false≢true (sym (get_or-replicate count n false false below) ∙ is));
  unmarked = λ n below is p. in_none (place n) p;
})

-- one member more, which has a place of its own
pub marks_push : (place : ℕ → ℕ) (xs : List ℕ) (count n : ℕ) (marks new : List Bool) → new ≡ set marks n true → n < count
    → ((m : ℕ) → m < count → place n ≡ place m → n ≡ m) → AreMarks place xs count marks → AreMarks place (xs ++ place n ∷ []) count new
marks_push place xs count n marks new are below alone old = subst (AreMarks place (xs ++ place n ∷ []) count) (sym are) (record {
  long = length-set marks n true ∙ old.long;
  marked = λ m less is. elim (cases_eq m n) as (λ _. Contains (xs ++ place n ∷ []) (place m)) [
    | inl same ↦ subst (λ k. Contains (xs ++ place n ∷ []) (place k)) (sym same) (Contains-push xs (place n))
    | inr other ↦ Contains-append_left xs (place n ∷ []) (place m) (old.marked m less (sym (get_or-set_other marks n m true false other) ∙ is))
  ];
  unmarked = λ m less is p. elim (cases_eq m n) as (λ _. ⊥) [
    | inl same ↦ false≢true (sym is ∙ ap (λ k. get_or (set marks n true) k false) same
        ∙ get_or-set_same marks n true false (let long = old.long in omega arith))
    | inr other ↦ elim (Contains-push_cases xs (place n) (place m) p) as (λ _. ⊥) [
      | inl before ↦ old.unmarked m less (sym (get_or-set_other marks n m true false other) ∙ is) before
      | inr here ↦ other (sym (alone m less here))
    ]
  ];
})

-- how many marks there are
pub counted_none : (count : ℕ) (marks : List Bool) → marks ≡ replicate count false → total one_if marks ≡ 0
counted_none count marks are = none_of marks (λ k below. ap (λ (ms : List Bool). get_or ms k false) are
    ∙ get_or-replicate count k false false (let long = ap length are in let repeated = length-replicate count false in omega arith)) where
      none_of : (ms : List Bool) → ((k : ℕ) → k < length ms → get_or ms k false ≡ false) → total one_if ms ≡ 0
      none_of [] each = refl
      none_of (m ∷ ms) each = let first : one_if m ≡ 0 = ap one_if (each 0 (omega arith)) in
          let rest = none_of ms (λ k below. each (suc k) (omega arith)) in omega arith

counted_set : (n : ℕ) (marks : List Bool) → n < length marks → get_or marks n false ≡ false → total one_if (set marks n true) ≡ total one_if marks + 1
counted_set n [] below is = absurd (omega arith)
counted_set zero (mark ∷ marks) below is = let none : one_if mark ≡ 0 = ap one_if is in omega arith
counted_set (suc n) (mark ∷ marks) below is = let rest = counted_set n marks (omega arith) is in omega arith

pub counted_push : (n count : ℕ) (marks new : List Bool) → new ≡ set marks n true → n < length marks → get_or marks n false ≡ false
    → total one_if marks ≡ count → total one_if new ≡ count + 1
counted_push n count marks new are below is counted = ap (λ (ms : List Bool). total one_if ms) are ∙ counted_set n marks below is
    ∙ ap (λ k. k + 1) counted

-- no more than there are numbers
pub counted_low : (marks : List Bool) → total one_if marks ≤ length marks
counted_low [] = omega arith
counted_low (true ∷ marks) = let rest = counted_low marks in omega arith
counted_low (false ∷ marks) = let rest = counted_low marks in omega arith
