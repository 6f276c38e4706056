use Rattle.heap_rule.specs.Seated.{IsSeatOf}
use Rattle.std.proofs.Common.{◌-◌}
use Rattle.seat_costs.specs.Asked.{HasAsked}
use Rattle.seat_costs.specs.Rows.{KeepsMarks}
use Rattle.seat_costs.specs.Words.{IsHeldWord}
use Rattle.cache_fill.specs.Refills.{fill_costs}
use Rattle.cache_fill.proofs.TakeLemmas.{Taking}
use Rattle.cache_fill.proofs.refills.fill_from_class.Given as goal

abbrev pub invariant-loop-from : goal.invariant-loop-from
invariant-loop-from g l = record {
  filling : Taking (fill_costs 0 0 l.initial.seat.view l.seat.view) l.initial.seat.view l.seat.view;
  marks : KeepsMarks (IsHeldWord l.initial.seat.view) l.initial.seat l.seat;
  asked : HasAsked g.C.Chance.draw_gives l.initial.seat.view l.seat.view l.initial.chance l.chance;
  is_of : IsSeatOf l.shared l.seat;
}

abbrev pub decreases-loop-from : goal.decreases-loop-from
decreases-loop-from g l = l.seat.view.setup.budget - l.seat.view.draws
