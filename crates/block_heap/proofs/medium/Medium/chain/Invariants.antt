use Rattle.std.proofs.Common.{◌≡◌, ◌≤◌}
use Rattle.heap_model.specs.Sizes.{blocks_of}
use Rattle.block_heap.specs.MediumView.{medium_view}
use Rattle.block_heap.specs.Divide.{AreInOneChain}
use Rattle.block_heap.specs.Draws.{most_blocks}
use Rattle.block_heap.proofs.medium.Medium.chain.Given as goal

abbrev pub invariant-loop-index : goal.invariant-loop-index
invariant-loop-index g l = record {
  ends : l.index-end ≡ blocks_of l.class.number;
  few : l.index-end ≤ most_blocks;
  chained : AreInOneChain l.geometry.capacity l.class.number l.d l.index (medium_view l.initial.self) (medium_view l.self);
}
