-- The first words of all blocks of a superblock, in order: each once, and a chain.
use Rattle.std.proofs.Common.{◌≡◌, ℕ, zero, suc, ◌+◌, ◌<◌, ◌≤◌, inl, inr, nat_eq, Contains, refl, ap, sym, subst, arith}
use Rattle.std.proofs.lemmas.Bool.{cases_eq, eqb-true, eq-eqb}
use Rattle.heap_model.specs.Image.{Image}
use Rattle.heap_model.specs.Sizes.{IsClass, blocks_of}
use Rattle.heap_model.specs.Chains.{Walks}
use Rattle.heap_model.specs.Counting.{times, one_if}
use Rattle.heap_model.proofs.CountingLemmas.{one_if_true, one_if_false}
use Rattle.heap_model.proofs.MemberLemmas.{in_none, head_or_rest}
use Rattle.heap_shape.specs.Standing.{first_of, IsFirstOf}
use Rattle.heap_shape.specs.Effects.{firsts_from}
use Rattle.heap_shape.proofs.BasicLemmas.{first_injective}

-- a first word that is not below another index is not among the blocks from there on
firsts_none : (capacity class d i index count : ℕ) → IsClass class → i < index
    → times (first_of capacity class d i) (firsts_from capacity class d index count) ≡ 0
firsts_none capacity class d i index zero is before = refl
firsts_none capacity class d i index (suc count) is before =
    let none : one_if (nat_eq (first_of capacity class d index) (first_of capacity class d i)) ≡ 0 = one_if_false _
    (λ same. let one : index ≡ i = first_injective capacity class d index i is
    (eqb-true (first_of capacity class d index) (first_of capacity class d i) same) in omega arith) in
    let rest = firsts_none capacity class d i (index + 1) count is (omega arith) in
    omega arith

-- each of the blocks stands among them once
pub firsts_once : (capacity class d i index count : ℕ) → IsClass class → index ≤ i → i < index + count
    → times (first_of capacity class d i) (firsts_from capacity class d index count) ≡ 1
firsts_once capacity class d i index zero is from until = absurd (omega arith)
firsts_once capacity class d i index (suc count) is from until =
    elim (cases_eq i index) as (λ _. times (first_of capacity class d i) (firsts_from capacity class d index (suc count)) ≡ 1) [
      | inl one ↦
          let here : one_if (nat_eq (first_of capacity class d index) (first_of capacity class d i)) ≡ 1 = one_if_true _
          (eq-eqb (first_of capacity class d index) (first_of capacity class d i) (ap (first_of capacity class d) (sym one))) in
          let rest = firsts_none capacity class d i (index + 1) count is (omega arith) in
          omega arith
      | inr other ↦
          let none : one_if (nat_eq (first_of capacity class d index) (first_of capacity class d i)) ≡ 0 = one_if_false _
          (λ same. other (sym (first_injective capacity class d index i is
          (eqb-true (first_of capacity class d index) (first_of capacity class d i) same)))) in
          let rest = firsts_once capacity class d i (index + 1) count is (omega arith) (omega arith) in
          omega arith
    ]

-- and nothing else does
pub firsts_are : (capacity class d index count w : ℕ) → index + count ≤ blocks_of class → Contains (firsts_from capacity class d index count) w
    → IsFirstOf capacity class d w
firsts_are capacity class d index zero w within p = absurd (in_none w p)
firsts_are capacity class d index (suc count) w within p =
    elim (head_or_rest (first_of capacity class d index) w (firsts_from capacity class d (index + 1) count) p) as (λ _. IsFirstOf capacity class d w) [
      | inl same ↦ record { index = index; below = omega arith; at = sym same }
      | inr later ↦ firsts_are capacity class d (index + 1) count w (omega arith) later
    ]

-- where each leads to the next, they are walked along
pub firsts_walk : (capacity class d : ℕ) (new : Image) (index count : ℕ)
    → ((k : ℕ) → k + 1 < blocks_of class → new (first_of capacity class d k) ≡ first_of capacity class d (k + 1))
    → index + count ≤ blocks_of class → Walks new (first_of capacity class d index) (firsts_from capacity class d index count)
firsts_walk capacity class d new index zero linked within = tt
firsts_walk capacity class d new index (suc zero) linked within = (refl, tt)
firsts_walk capacity class d new index (suc (suc count)) linked within = (
  refl,
  subst (λ from. Walks new from (firsts_from capacity class d (index + 1) (suc count))) (sym (linked index (omega arith)))
      (firsts_walk capacity class d new (index + 1) (suc count) linked (omega arith)),
)
