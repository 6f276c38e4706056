use Rattle.heap_rule.specs.Seated.{IsSeatOf}
use Rattle.std.proofs.Common.{◌-◌}
use Rattle.seat_costs.specs.Asked.{HasAsked}
use Rattle.seat_costs.specs.Rows.{KeepsMarks}
use Rattle.seat_costs.specs.Words.{IsHeldWord}
use Rattle.cache_flush.specs.Lifts.{IsLifting}
use Rattle.cache_flush.proofs.lifts.lift_prefix.Given as goal

abbrev pub invariant-loop-class : goal.invariant-loop-class
invariant-loop-class g l = record {
  lifting : IsLifting l.class.number l.d l.last l.fn.seat.view l.seat.view;
  marks : KeepsMarks (IsHeldWord l.fn.seat.view) l.fn.seat l.seat;
  asked : HasAsked g.C.Chance.draw_gives l.fn.seat.view l.seat.view l.fn.chance l.chance;
  is_of : IsSeatOf l.shared l.seat;
}

abbrev pub decreases-loop-class : goal.decreases-loop-class
decreases-loop-class g l = l.seat.view.setup.budget - l.seat.view.draws
