-- What a change of words leaves: what is known of own words where another word changes, and the sums of one part.
use Rattle.std.proofs.Common.{◌≡◌, ℕ, zero, suc, ◌+◌, ◌<◌, ◌≤◌, inl, inr, Bool, true, false, cond, nat_eq, nat_lt, List, [], ◌∷◌, refl, ap, sym, subst, ◌∙◌, eq-eqb, ltb-true, lt-ltb, ne_eqb, arith}
use Rattle.std.proofs.lemmas.Bool.{cases_eq, cases_lt}
use Rattle.heap_model.specs.Counting.{times, one_if, below, without}
use Rattle.heap_model.proofs.CountingLemmas.{one_if_true, one_if_false}
pub use Rattle.heap_model.proofs.ListLemmas.{times_append}
use Rattle.core_model.specs.Cells.{Cell, same_cell}
use Rattle.core_model.specs.Memory.{Memory, with_cell}
use Rattle.core_model.specs.View.{View, times_own}
use Rattle.core_model.specs.Effects.{steps}
use Rattle.core_model.specs.Guards.{IsOwn}
use Rattle.core_model.specs.Sound.{KnowsWords}
use Rattle.core_model.proofs.MemoryLemmas.{same-true}
use Rattle.core_model.proofs.TotalLemmas.{eq-eqb-one, ne-eqb-none}

by_test : (test : Bool) (f : Cell → ℕ) (x : ℕ) (cell : Cell) → (test ≡ true → ⊥) → cond test x (f cell) ≡ f cell
by_test true f x cell other = absurd (other refl)
by_test false f x cell other = refl

-- another cell keeps its value
pub with_other : (f : Cell → ℕ) (at : Cell) (x : ℕ) (cell : Cell) → (cell ≡ at → ⊥) → with_cell f at x cell ≡ f cell
with_other f at x cell other = by_test (same_cell cell at) f x cell (λ e. other (same-true cell at e))

-- an own word is not one that is not the seat's own
pub untouched : (u : View) (f : Cell → ℕ) (at : Cell) (x : ℕ) (cell : Cell) → times_own u at ≡ 0 → IsOwn u cell → with_cell f at x cell ≡ f cell
untouched u f at x cell not_own own = with_other f at x cell (λ same. let e = ap (times_own u) same in omega arith)

pub words_frame : (capacity : ℕ) (m m' : Memory) (u : View)
    → ((cell : Cell) → IsOwn u cell → m'.volatile cell ≡ m.volatile cell) → ((cell : Cell) → IsOwn u cell → m'.durable cell ≡ m.durable cell)
    → KnowsWords capacity m u → KnowsWords capacity m' u
words_frame capacity m m' u volatile durable words = record {
  volatile = λ cell value is knows. let old = words.volatile cell value is knows in (old.0, volatile cell old.0 ∙ old.1);
  durable = λ cell value is knows. let old = words.durable cell value is knows in (old.0, durable cell old.0 ∙ old.1);
}

pub below_is : (n limit : ℕ) → n < limit → below n limit ≡ 1
below_is n limit less = one_if_true (nat_lt n limit) (lt-ltb n limit less)

pub below_not : (n limit : ℕ) → limit ≤ n → below n limit ≡ 0
below_not n limit less = one_if_false (nat_lt n limit) (λ e. let l : n < limit = ltb-true n limit e in omega arith)

-- numbers side by side, each once
pub times_steps : (d u n : ℕ) → times d (steps u 1 n) + below d u ≡ below d (u + n)
times_steps d u zero = (let same = ap (below d) (plus_zero u) in omega arith) where
  plus_zero : (u : ℕ) → u ≡ u + 0
  plus_zero u = omega arith
times_steps d u (suc n) =
    let rest = times_steps d (u + 1) n in
    let same : u + 1 + n ≡ u + suc n = omega arith in
    let later = ap (below d) same in
    elim (cases_lt d u) as (λ _. one_if (nat_eq u d) + times d (steps (u + 1) 1 n) + below d u ≡ below d (u + suc n)) [
      | inl less ↦ let a = below_is d u less in let b = below_is d (u + 1) (omega arith) in let c = ne-eqb-none u d (λ e. omega (arith, e)) in
          omega arith
      | inr more ↦ elim (cases_eq u d) as (λ _. one_if (nat_eq u d) + times d (steps (u + 1) 1 n) + below d u ≡ below d (u + suc n)) [
        | inl here ↦ let a = below_not d u more in let b = below_is d (u + 1) (omega arith) in let c = eq-eqb-one u d here in omega arith
        | inr other ↦ let a = below_not d u more in let b = below_not d (u + 1) (omega arith) in let c = ne-eqb-none u d other in omega arith
      ]
    ]

-- the first of a number, taken out
pub times_without : (d e : ℕ) (xs : List ℕ) → 0 < times e xs → times d (without e xs) + one_if (nat_eq e d) ≡ times d xs
times_without d e [] some = absurd (omega arith)
times_without d e (x ∷ xs) some = elim (cases_eq x e) as (λ _. times d (cond (nat_eq x e) xs (x ∷ without e xs)) + one_if (nat_eq e d) ≡ one_if
    (nat_eq x d) + times d xs) [
      | inl here ↦ subst (λ (t : Bool). times d (cond t xs (x ∷ without e xs)) + one_if (nat_eq e d) ≡ one_if (nat_eq x d) + times d xs)
          (sym (eq-eqb x e here)) (let same = ap (λ n. one_if (nat_eq n d)) here in omega arith)
      | inr other ↦ subst (λ (t : Bool). times d (cond t xs (x ∷ without e xs)) + one_if (nat_eq e d) ≡ one_if (nat_eq x d) + times d xs)
          (sym (ne_eqb x e other))
          (let none = ne-eqb-none x e other in let rest = times_without d e xs (omega arith) in omega arith)
    ]

-- nothing to take out
pub without_none : (d e : ℕ) (xs : List ℕ) → times e xs ≡ 0 → times d (without e xs) ≡ times d xs
without_none d e [] none = refl
without_none d e (x ∷ xs) none = elim (cases_eq x e) as (λ _. times d (cond (nat_eq x e) xs (x ∷ without e xs)) ≡ one_if (nat_eq x d) + times d xs) [
  | inl here ↦ absurd (let one = eq-eqb-one x e here in omega arith)
  | inr other ↦ subst (λ (t : Bool). times d (cond t xs (x ∷ without e xs)) ≡ one_if (nat_eq x d) + times d xs) (sym (ne_eqb x e other))
      (let rest = without_none d e xs (omega arith) in omega arith)
]
