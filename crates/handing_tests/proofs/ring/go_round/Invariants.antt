use Rattle.std.proofs.Common.{All}
use Rattle.handing_tests.specs.Handing.{AreAt, IsHandOf}
use Rattle.handing_tests.proofs.ring.go_round.Given as goal

abbrev pub invariant-loop-turn : goal.invariant-loop-turn
invariant-loop-turn l = record {
  hands : All (λ hand. IsHandOf l.shared hand.seat.state) l.ring.hands.items;
  at : AreAt l.shared.table l.ring.goods.carriers.items;
}
