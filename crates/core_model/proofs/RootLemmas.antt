-- Which roots a seat has at the opening.
use Rattle.std.proofs.Common.{◌≡◌, ℕ, zero, suc, ◌+◌, ◌<◌, inl, inr, Bool, true, false, cond, nat_eq, ◌↔◌, List, [], ◌∷◌, get_or, eqb-true, eq-eqb, refl, sym, subst, arith}
use Rattle.std.proofs.lemmas.Bool.{cases_eq}
use Rattle.heap_model.specs.Counting.{times}
use Rattle.core_model.specs.Effects.{steps}
use Rattle.core_model.specs.Opening.{picked}
use Rattle.core_model.proofs.TotalLemmas.{eq-eqb-one, ne-eqb-none}

-- a root is picked for the seat that owns it
root_owner : (i n from count : ℕ) (os : List ℕ) → 0 < times n (picked i (steps from 1 count) os) → (at : ℕ) × (n ≡ from + at) × (at < count)
    × (get_or os at (i + 1) ≡ i)
root_owner i n from zero os some = absurd (omega arith)
root_owner i n from (suc count) [] some = absurd (omega arith)
root_owner i n from (suc count) (owner ∷ os) some = by_test (nat_eq owner i) refl some (root_owner i n (from + 1) count os) where
  later : (at : ℕ) × (n ≡ from + 1 + at) × (at < count) × (get_or os at (i + 1) ≡ i) → (at : ℕ) × (n ≡ from + at) × (at < suc count)
      × (get_or (owner ∷ os) at (i + 1) ≡ i)
  later r = (suc r.0, omega (arith, r.1), omega (arith, r.2), r.3)

  by_test : (t : Bool) → nat_eq owner i ≡ t → 0 < times n (cond t (from ∷ picked i (steps (from + 1) 1 count) os)
      (picked i (steps (from + 1) 1 count) os))
      → (0 < times n (picked i (steps (from + 1) 1 count) os) → (at : ℕ) × (n ≡ from + 1 + at) × (at < count) × (get_or os at (i + 1) ≡ i))
      → (at : ℕ) × (n ≡ from + at) × (at < suc count) × (get_or (owner ∷ os) at (i + 1) ≡ i)
  by_test true e more rest = elim (cases_eq from n) [
    | inl same ↦ (0, omega (arith, same), omega arith, eqb-true owner i e)
    | inr other ↦ later (rest (let z = ne-eqb-none from n other in omega arith))
  ]
  by_test false e more rest = later (rest more)

root_picked : (i from count : ℕ) (os : List ℕ) (at : ℕ) → at < count → get_or os at (i + 1) ≡ i
    → 0 < times (from + at) (picked i (steps from 1 count) os)
root_picked i from zero os at less owner = absurd (omega arith)
root_picked i from (suc count) [] at less owner = absurd (omega (arith, owner))
root_picked i from (suc count) (o ∷ os) zero less owner =
    subst (λ t. 0 < times (from + 0) (cond t (from ∷ picked i (steps (from + 1) 1 count) os) (picked i (steps (from + 1) 1 count) os)))
    (sym (eq-eqb o i owner)) (let one = eq-eqb-one from (from + 0) (omega arith) in omega arith)
root_picked i from (suc count) (o ∷ os) (suc at) less owner = by_test (nat_eq o i) (root_picked i (from + 1) count os at (omega arith) owner) where
  same : from + 1 + at ≡ from + suc at
  same = omega arith

  by_test : (t : Bool) → 0 < times (from + 1 + at) (picked i (steps (from + 1) 1 count) os)
      → 0 < times (from + suc at) (cond t (from ∷ picked i (steps (from + 1) 1 count) os) (picked i (steps (from + 1) 1 count) os))
  by_test true rest = let r = subst (λ x. 0 < times x (picked i (steps (from + 1) 1 count) os)) same rest in omega arith
  by_test false rest = subst (λ x. 0 < times x (picked i (steps (from + 1) 1 count) os)) same rest

pub owns_root : (i count : ℕ) (os : List ℕ) (n : ℕ) → (0 < times n (picked i (steps 0 1 count) os)) ↔ ((n < count) × (get_or os n (i + 1) ≡ i))
owns_root i count os n = (
  λ some. let r = root_owner i n 0 count os some in let same : r.0 ≡ n = omega (arith, r.1) in
      (omega (arith, r.2, same), subst (λ x. get_or os x (i + 1) ≡ i) same r.3),
  λ owns. subst (λ x. 0 < times x (picked i (steps 0 1 count) os)) (let e : 0 + n ≡ n = omega arith in e) (root_picked i 0 count os n owns.0 owns.1),
)
