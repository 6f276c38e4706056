use Rattle.handing_tests.specs.Handing.{AreAt, HasAllRoots, IsSameSeat}
use Rattle.handing_tests.proofs.ring.begin.Given as goal

abbrev pub invariant-loop-bytes : goal.invariant-loop-bytes
invariant-loop-bytes l = record {
  same : IsSameSeat l.fn.hand.seat.state l.hand.seat.state;
  roots : HasAllRoots l.hand.seat.state.view.roots;
  at : AreAt l.hand.seat.state.table l.goods.carriers.items;
}
