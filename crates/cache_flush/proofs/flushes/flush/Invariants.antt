use Rattle.heap_rule.specs.Seated.{IsSeatOf}
use Rattle.std.proofs.Common.{◌-◌}
use Rattle.seat_costs.specs.Asked.{HasAsked}
use Rattle.seat_costs.specs.Rows.{KeepsMarks}
use Rattle.seat_costs.specs.Words.{IsHeldWord}
use Rattle.cache_flush.proofs.FlushingLemmas.{Flushing}
use Rattle.cache_flush.proofs.flushes.flush.Given as goal

abbrev pub invariant-loop-class : goal.invariant-loop-class
invariant-loop-class g l = record {
  flushing : Flushing l.class.number l.initial.seat.view l.seat.view;
  marks : KeepsMarks (IsHeldWord l.initial.seat.view) l.initial.seat l.seat;
  asked : HasAsked g.C.Chance.draw_gives l.initial.seat.view l.seat.view l.initial.chance l.chance;
  is_of : IsSeatOf l.shared l.seat;
}

abbrev pub decreases-loop-class : goal.decreases-loop-class
decreases-loop-class g l = l.seat.view.setup.budget - l.seat.view.draws
