use Rattle.std.proofs.Common.{All, length}
use Rattle.handing_tests.specs.Handing.{IsFreshSeatOf, IsHandOf}
use Rattle.handing_tests.proofs.ring.hands_of.Given as goal

abbrev pub invariant-loop-hand : goal.invariant-loop-hand
invariant-loop-hand l = record {
  seats : All (IsFreshSeatOf l.shared) l.seats.items;
  hands : All (λ hand. IsHandOf l.shared hand.seat.state) l.hands.items;
}

abbrev pub decreases-loop-hand : goal.decreases-loop-hand
decreases-loop-hand l = length l.seats.items
