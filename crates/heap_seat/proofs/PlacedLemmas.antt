-- Whether a block is where blocks may lie can be decided.
use Rattle.std.proofs.Common.{suc, ◌+◌, ◌*◌, ◌^◌, ◌⊎◌, inl, inr}
use Rattle.heap_model.specs.declared.block.Block.{Block}
use Rattle.heap_model.specs.Geometry.{fixed_words}
use Rattle.heap_model.proofs.DecisionLemmas.{at_most, both}
use Rattle.heap_seat.specs.Sound.{IsPlaced}

pub is_placed : (b : Block) → IsPlaced b ⊎ (IsPlaced b → ⊥)
is_placed b = elim (both (at_most fixed_words b.first_word)
    (both (at_most 1 b.words) (at_most (suc (8 * (b.first_word + b.words))) (2 ^ 48)))) [
      | inl all ↦ inl (record { behind = all.0; some = all.1.0; short = all.1.1 })
      | inr not ↦ inr (λ placed. not (placed.behind, (placed.some, placed.short)))
    ]
