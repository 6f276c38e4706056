use Rattle.std.proofs.Common.{◌≡◌, ◌≤◌, ◌+◌, length}
use Rattle.std.specs.Vec.{vec_capacity}
use Rattle.shared_run.proofs.TakenApartLemmas.{AreTaken}
use Rattle.shared_run.proofs.gather.gather.Given as goal

abbrev pub invariant-loop-one : goal.invariant-loop-one
invariant-loop-one l = record {
  taken : AreTaken l.fn.ended.items l.ended.items l.seats.items l.told.items l.carriers.items l.stopped;
  seats_count : length l.seats.items + length l.ended.items ≡ length l.fn.ended.items;
  told_count : length l.told.items + length l.ended.items ≡ length l.fn.ended.items;
  seats_room : length l.fn.ended.items ≤ vec_capacity l.seats;
  told_room : length l.fn.ended.items ≤ vec_capacity l.told;
}

abbrev pub decreases-loop-one : goal.decreases-loop-one
decreases-loop-one l = length l.ended.items
