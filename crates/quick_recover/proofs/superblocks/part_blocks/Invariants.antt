use Rattle.heap_at_rest.specs.Orderly.{IsHeldByAnchors}
use Rattle.heap_recover.specs.Marked.{AreParted}
use Rattle.quick_recover.proofs.superblocks.part_blocks.Given as goal

abbrev pub invariant-loop-index : goal.invariant-loop-index
invariant-loop-index g l = AreParted (IsHeldByAnchors g.image) l.geometry.capacity l.class.number l.d l.index l.held.items l.spares.items
