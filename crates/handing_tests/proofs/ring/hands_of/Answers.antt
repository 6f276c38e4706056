use Rattle.std.proofs.lemmas.List.Elements.{All-push, All-same}
use Rattle.handing_tests.specs.Handing.{IsHandOf}
use Rattle.handing_tests.proofs.ring.hands_of.Goals as goal

pub loop-hand-preserved : goal.loop-hand-preserved
loop-hand-preserved c = record {
  seats = c.last_hand.ensures.rest;
  hands = All-same (λ hand. IsHandOf c.args.shared.now hand.seat.state) c.push_back.new.self.items _ c.in_ok-push_back.ensures.items
      (All-push (λ hand. IsHandOf c.args.shared.now hand.seat.state)
      c.loop-hand.hands.items c.in-Some.hand c.loop-hand.invariant.hands c.in-Some.ensures.hand);
}
