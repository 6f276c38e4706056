use Rattle.heap_rule.specs.Seated.{IsSeatOf}
use Rattle.seat_costs.specs.Asked.{HasAsked}
use Rattle.large_block.proofs.SplitLemmas.{Clearing}
use Rattle.large_block.proofs.splits.clear_anchors.Given as goal

abbrev pub invariant-loop-e : goal.invariant-loop-e
invariant-loop-e g l = record {
  clearing : Clearing l.fn.span.first l.e l.fn.seat l.seat;
  asked : HasAsked g.C.Chance.draw_gives l.fn.seat.view l.seat.view l.fn.chance l.chance;
  is_of : IsSeatOf l.shared l.seat;
}
