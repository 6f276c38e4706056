use Rattle.heap_seat.specs.View.{left}
use Rattle.dict_requests.specs.Walks.{IsWalking}
use Rattle.dict_requests.proofs.walk.walk.Given as goal

abbrev pub invariant-loop-node : goal.invariant-loop-node
invariant-loop-node g l = record {
  walking : IsWalking l.key l.fn.table l.link (g.H.HeapSeat.view l.initial.seat) (g.H.HeapSeat.view l.seat);
  kept : g.H.HeapSeat.keeps l.initial.seat l.seat;
}

abbrev pub decreases-loop-node : goal.decreases-loop-node
decreases-loop-node g l = left (g.H.HeapSeat.view l.seat)
