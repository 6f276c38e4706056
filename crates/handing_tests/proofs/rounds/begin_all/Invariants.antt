use Rattle.handing_tests.specs.Handing.{AreAt, HasAllRoots, IsSameSeat}
use Rattle.handing_tests.proofs.rounds.begin_all.Given as goal

abbrev pub invariant-loop-bytes : goal.invariant-loop-bytes
invariant-loop-bytes g l = IsSameSeat l.fn.hand.seat.state l.hand.seat.state × HasAllRoots l.hand.seat.state.view.roots
    × AreAt g.J.Run.table l.goods.carriers.items
