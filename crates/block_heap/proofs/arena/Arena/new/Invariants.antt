use Rattle.block_heap.proofs.OpenedLemmas.{AreSeen}
use Rattle.block_heap.proofs.arena.Arena.new.Given as goal

abbrev pub invariant-loop-list : goal.invariant-loop-list
invariant-loop-list g l = AreSeen l.words.items l.head_looks.items l.list
