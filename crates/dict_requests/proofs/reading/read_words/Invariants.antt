use Rattle.dict_requests.specs.Gets.{IsReading}
use Rattle.dict_requests.proofs.reading.read_words.Given as goal

abbrev pub invariant-loop-index : goal.invariant-loop-index
invariant-loop-index g l = record {
  reading : IsReading l.fn.node l.index l.initial.out l.out (g.H.HeapSeat.view l.initial.seat) (g.H.HeapSeat.view l.seat);
  kept : g.H.HeapSeat.keeps l.initial.seat l.seat;
}
