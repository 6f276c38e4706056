use Rattle.dict_requests.specs.Nodes.{IsWriting}
use Rattle.dict_requests.proofs.node.write_value.Given as goal

abbrev pub invariant-loop-index : goal.invariant-loop-index
invariant-loop-index g l = record {
  writing : IsWriting l.fn.node l.value l.index (g.H.HeapSeat.view l.initial.seat) (g.H.HeapSeat.view l.seat);
  kept : g.H.HeapSeat.keeps l.initial.seat l.seat;
}
