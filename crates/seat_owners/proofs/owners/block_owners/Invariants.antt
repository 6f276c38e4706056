use Rattle.std.proofs.Common.{slice_index}
use Rattle.seat_owners.specs.Owning.{AreOwnedUpTo}
use Rattle.seat_owners.proofs.owners.block_owners.Given as goal

abbrev pub invariant-loop-i : goal.invariant-loop-i
invariant-loop-i l = AreOwnedUpTo (slice_index l.heap.words) l.workers l.heap.held l.i l.owners.items
