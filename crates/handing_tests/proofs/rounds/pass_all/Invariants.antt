use Rattle.handing_tests.specs.Handing.{AreAt, IsSameSeat}
use Rattle.handing_tests.proofs.rounds.pass_all.Given as goal

abbrev pub invariant-loop-index : goal.invariant-loop-index
invariant-loop-index g l = IsSameSeat l.fn.hand.seat.state l.hand.seat.state × AreAt g.J.Run.table l.goods.carriers.items
