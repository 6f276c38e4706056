use Rattle.heap_rule.specs.Seated.{IsSeatOf}
use Rattle.std.proofs.Common.{◌-◌}
use Rattle.seat_costs.specs.Asked.{HasAsked}
use Rattle.seat_costs.specs.Rows.{KeepsMarks}
use Rattle.seat_costs.specs.Words.{IsHeldWord}
use Rattle.superblock_lists.proofs.TryLemmas.{Trying}
use Rattle.superblock_lists.proofs.pops.pop_from.Given as goal

abbrev pub invariant-loop-pop : goal.invariant-loop-pop
invariant-loop-pop g l = record {
  trying : Trying l.list l.initial.seat.view l.seat.view;
  marks : KeepsMarks (IsHeldWord l.initial.seat.view) l.initial.seat l.seat;
  asked : HasAsked g.C.Chance.draw_gives l.initial.seat.view l.seat.view l.initial.chance l.chance;
  is_of : IsSeatOf l.shared l.seat;
}

abbrev pub decreases-loop-pop : goal.decreases-loop-pop
decreases-loop-pop g l = l.seat.view.setup.budget - l.seat.view.draws
