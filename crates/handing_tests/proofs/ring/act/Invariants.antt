use Rattle.handing_tests.specs.Handing.{AreAt, IsSameSeat}
use Rattle.handing_tests.proofs.ring.act.Given as goal

abbrev pub invariant-loop-index : goal.invariant-loop-index
invariant-loop-index l = record {
  same : IsSameSeat l.fn.hand.seat.state l.hand.seat.state;
  at : AreAt l.hand.seat.state.table l.goods.carriers.items;
}
