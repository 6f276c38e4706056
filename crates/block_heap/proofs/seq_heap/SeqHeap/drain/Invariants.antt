use Rattle.std.proofs.Common.{◌-◌, ◌≤◌}
use Rattle.std.specs.Vec.{vec_capacity}
use Rattle.block_heap.specs.Closing.{KeepsFixed}
use Rattle.block_heap.proofs.DrainKeepLemmas.{HasKept}
use Rattle.block_heap.proofs.DrawnLemmas.{Draining}
use Rattle.block_heap.proofs.seq_heap.SeqHeap.drain.Given as goal

abbrev pub invariant-loop-offsets : goal.invariant-loop-offsets
invariant-loop-offsets g l = Draining l.class l.fn.self l.self l.offsets.items × KeepsFixed l.fn.self l.self
    × HasKept l.class l.fn.self l.self l.offsets.items
    × (l.most ≤ vec_capacity l.offsets)

abbrev pub decreases-loop-offsets : goal.decreases-loop-offsets
decreases-loop-offsets g l = l.self.parts.words.budget - l.self.parts.words.drawn
