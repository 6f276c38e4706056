use Rattle.heap_rule.specs.Seated.{IsSeatOf}
use Rattle.std.proofs.Common.{◌-◌}
use Rattle.seat_costs.specs.Asked.{HasAsked}
use Rattle.seat_costs.specs.Costs.{no_costs}
use Rattle.seat_costs.specs.Rows.{KeepsMarks}
use Rattle.seat_costs.specs.Words.{IsHeldWord}
use Rattle.cache_fill.proofs.TakeLemmas.{Taking}
use Rattle.cache_fill.proofs.takes.take_free_blocks.Given as goal

abbrev pub invariant-loop-taken : goal.invariant-loop-taken
invariant-loop-taken g l = record {
  taking : Taking no_costs l.initial.seat.view l.seat.view;
  marks : KeepsMarks (IsHeldWord l.initial.seat.view) l.initial.seat l.seat;
  asked : HasAsked g.C.Chance.draw_gives l.initial.seat.view l.seat.view l.initial.chance l.chance;
  is_of : IsSeatOf l.shared l.seat;
}

abbrev pub decreases-loop-taken : goal.decreases-loop-taken
decreases-loop-taken g l = l.seat.view.setup.budget - l.seat.view.draws
