use Rattle.block_heap.specs.Parts.{parts_of}
use Rattle.block_heap.proofs.FreedPartLemmas.{IsFreed}
use Rattle.block_heap.proofs.arena.Arena.free_large.Given as goal

abbrev pub invariant-loop-d : goal.invariant-loop-d
invariant-loop-d g l = IsFreed l.first l.d l.d-end (parts_of l.initial.self) (parts_of l.self)
