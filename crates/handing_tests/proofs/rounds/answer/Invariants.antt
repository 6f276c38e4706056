use Rattle.handing_tests.specs.Handing.{AreAt, IsSameSeat}
use Rattle.handing_tests.proofs.rounds.answer.Given as goal

abbrev pub invariant-loop-round : goal.invariant-loop-round
invariant-loop-round g l = IsSameSeat l.fn.hand.seat.state l.hand.seat.state × AreAt g.J.Run.table l.goods.carriers.items
