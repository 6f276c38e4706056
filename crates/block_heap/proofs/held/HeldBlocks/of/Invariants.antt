use Rattle.std.proofs.Common.{◌≡◌, []}
use Rattle.std.specs.Prelude.{slice_index}
use Rattle.heap_model.specs.Header.{capacity_of}
use Rattle.block_heap.specs.Held.{held_of}
use Rattle.block_heap.proofs.OpeningLemmas.{KnowsFirst, HoldsFirst}
use Rattle.block_heap.proofs.held.HeldBlocks.of.Given as goal

abbrev pub invariant-loop-d : goal.invariant-loop-d
invariant-loop-d l = (held_of l.blocks ≡ []) × KnowsFirst l.ready.words l.blocks l.d

abbrev pub invariant-loop-b : goal.invariant-loop-b
invariant-loop-b l = KnowsFirst l.ready.words l.blocks (capacity_of (slice_index l.ready.words)) × HoldsFirst l.ready.held l.b-index l.blocks
