use Rattle.heap_rule.specs.Seated.{IsSeatOf}
use Rattle.std.proofs.Common.{◌-◌}
use Rattle.seat_costs.specs.Asked.{HasAsked}
use Rattle.seat_costs.specs.Rows.{KeepsMarks}
use Rattle.seat_costs.specs.Words.{IsHeldWord}
use Rattle.cache_flush.proofs.GiveLemmas.{Giving}
use Rattle.cache_flush.proofs.gives.give.Given as goal

abbrev pub invariant-loop-full : goal.invariant-loop-full
invariant-loop-full g l = record {
  giving : Giving l.d l.class.number l.last l.initial.seat.view l.seat.view;
  marks : KeepsMarks (IsHeldWord l.initial.seat.view) l.initial.seat l.seat;
  asked : HasAsked g.C.Chance.draw_gives l.initial.seat.view l.seat.view l.initial.chance l.chance;
  is_of : IsSeatOf l.shared l.seat;
}

abbrev pub decreases-loop-full : goal.decreases-loop-full
decreases-loop-full g l = l.seat.view.setup.budget - l.seat.view.draws
