use Rattle.std.proofs.Common.{All, length}
use Rattle.heap_rule.specs.Seated.{IsSeatOf}
use Rattle.handing_tests.specs.Handing.{IsHandOf}
use Rattle.handing_tests.proofs.ring.gather.Given as goal

abbrev pub invariant-loop-hand : goal.invariant-loop-hand
invariant-loop-hand l = record {
  hands : All (λ hand. IsHandOf l.shared hand.seat.state) l.hands.items;
  seats : All (IsSeatOf l.shared) l.done.seats.items;
}

abbrev pub decreases-loop-hand : goal.decreases-loop-hand
decreases-loop-hand l = length l.hands.items
