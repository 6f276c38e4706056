use Rattle.heap_rule.specs.Seated.{IsSeatOf}
use Rattle.std.proofs.Common.{◌-◌}
use Rattle.seat_costs.specs.Asked.{HasAsked}
use Rattle.seat_costs.specs.Rows.{KeepsMarks}
use Rattle.seat_costs.specs.Words.{IsHeldWord}
use Rattle.large_block.proofs.TryLemmas.{Trying}
use Rattle.large_block.proofs.fresh.take_fresh.Given as goal

abbrev pub invariant-loop-take : goal.invariant-loop-take
invariant-loop-take g l = record {
  trying : Trying l.initial.seat.view l.seat.view;
  marks : KeepsMarks (IsHeldWord l.initial.seat.view) l.initial.seat l.seat;
  asked : HasAsked g.C.Chance.draw_gives l.initial.seat.view l.seat.view l.initial.chance l.chance;
  is_of : IsSeatOf l.shared l.seat;
}

abbrev pub decreases-loop-take : goal.decreases-loop-take
decreases-loop-take g l = l.seat.view.setup.budget - l.seat.view.draws
