use Rattle.dict_requests.specs.Tables.{IsClearing}
use Rattle.dict_requests.proofs.table.clear.Given as goal

abbrev pub invariant-loop-bucket : goal.invariant-loop-bucket
invariant-loop-bucket g l = record {
  clearing : IsClearing l.fn.table l.bucket (g.H.HeapSeat.view l.initial.seat) (g.H.HeapSeat.view l.seat);
  kept : g.H.HeapSeat.keeps l.initial.seat l.seat;
}
