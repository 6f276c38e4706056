use Rattle.block_heap.specs.Parts.{parts_of, cache_at}
use Rattle.block_heap.proofs.FlushedLemmas.{IsFlushed}
use Rattle.block_heap.proofs.arena.Arena.flush.Given as goal

abbrev pub invariant-loop-class : goal.invariant-loop-class
invariant-loop-class g l = IsFlushed l.class.number (parts_of l.fn.self) (parts_of l.self)

abbrev pub decreases-loop-class : goal.decreases-loop-class
decreases-loop-class g l = (cache_at (parts_of l.self).caches l.class.number).count
