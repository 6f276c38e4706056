-- Each root has one of the dictionary's three kinds.
use Rattle.std.proofs.Common.{◌≡◌, ℕ, ◌-◌, ◌<◌, List, length, slice_index_or, replicate, inl, inr, sym, subst, arith}
use Rattle.std.specs.Prelude.{slice_index}
use Rattle.std.proofs.lemmas.Bool.{cases_lt}
use Rattle.std.proofs.Math.ListN.{get_or-append, get_or-replicate}
use Rattle.std.proofs.Math.Seq.{get_or-append_right}
use Rattle.heap_model.specs.Header.{first_kinds}
use Rattle.heap_model.proofs.EmptyLemmas.{first_kind}
use Rattle.dict_model.specs.Links.{root_kind}

-- each kind of a root is one of three
small_kind : (k d : ℕ) → k < length first_kinds → slice_index_or first_kinds k d < 3
unfolding first_kinds
small_kind k d below = elim (cases_lt k 8) as (λ _. slice_index_or first_kinds k d < 3) [
  | inl low ↦ rw (get_or-append (replicate 8 1) (replicate 1016 0) d k low, get_or-replicate 8 k 1 d low) (omega arith)
  | inr high ↦ rw (get_or-append_right (replicate 8 1) (replicate 1016 0) k d high, get_or-replicate 1016 (k - 8) 0 d (omega arith)) (omega arith)
]

pub small_kinds : (kinds : List ℕ) → kinds ≡ first_kinds → (k d : ℕ) → k < length kinds → slice_index_or kinds k d < 3
small_kinds kinds are = subst (λ (ks : List ℕ). (k d : ℕ) → k < length ks → slice_index_or ks k d < 3) (sym are) small_kind

-- and it is that of its root, also past the last one, where the list reads 0
pub kinds_are : (kinds : List ℕ) → kinds ≡ first_kinds → (i : ℕ) → slice_index kinds i ≡ root_kind i
kinds_are kinds are = subst (λ (ks : List ℕ). (i : ℕ) → slice_index ks i ≡ root_kind i) (sym are) first_kind
