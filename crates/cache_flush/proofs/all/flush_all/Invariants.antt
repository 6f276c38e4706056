use Rattle.heap_rule.specs.Seated.{IsSeatOf}
use Rattle.seat_costs.specs.Asked.{HasAsked}
use Rattle.seat_costs.specs.Rows.{KeepsMarks}
use Rattle.seat_costs.specs.Words.{IsHeldWord}
use Rattle.cache_flush.proofs.AllLemmas.{FlushedBelow}
use Rattle.cache_flush.proofs.all.flush_all.Given as goal

abbrev pub invariant-loop-number : goal.invariant-loop-number
invariant-loop-number g l = record {
  flushed : FlushedBelow l.number l.fn.seat.view l.seat.view;
  marks : KeepsMarks (IsHeldWord l.fn.seat.view) l.fn.seat l.seat;
  asked : HasAsked g.C.Chance.draw_gives l.fn.seat.view l.seat.view l.fn.chance l.chance;
  is_of : IsSeatOf l.shared l.seat;
}
