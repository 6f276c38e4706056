use Rattle.block_heap.specs.Parts.{parts_of}
use Rattle.block_heap.proofs.OpenLastLemmas.{opened_lasts, opened_heap}
use Rattle.block_heap.proofs.seq_heap.SeqHeap.new.Goals as goal

pub invariant_of-result : goal.invariant_of-result
invariant_of-result g c = (
  ∣ opened_lasts _ _ _ (parts_of c.in_ok-new.field-0)
      c.in_ok-new.field-0.geometry.some c.in_ok-new.field-0.geometry.small c.in_ok-new.ensures ∣₁,
  tt,
)

pub invariant_of-result-2 : goal.invariant_of-result-2
invariant_of-result-2 g c = opened_heap _ _ _ (parts_of c.in_ok-new.field-0)
    _ _ c.in_ok-new.field-0.geometry.some c.in_ok-new.field-0.geometry.small c.in_ok-new.ensures
