use Rattle.heap_rule.specs.Seated.{IsSeatOf}
use Rattle.seat_costs.specs.Asked.{HasAsked}
use Rattle.thread_cache.proofs.SpanLemmas.{Listing}
use Rattle.thread_cache.proofs.large.list_all.Given as goal

abbrev pub invariant-loop-d : goal.invariant-loop-d
invariant-loop-d g l = record {
  listing : Listing l.fn.span.first l.fn.span.count l.d l.fn.seat l.seat;
  asked : HasAsked g.C.Chance.draw_gives l.fn.seat.view l.seat.view l.fn.chance l.chance;
  is_of : IsSeatOf l.shared l.seat;
}
