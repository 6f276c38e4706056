use Rattle.std.proofs.lemmas.List.Elements.{All-drop, All-same}
use Rattle.handing_tests.specs.Handing.{IsHandOf}
use Rattle.handing_tests.proofs.ring.next_hand.Goals as goal

pub returns-clause-rest : goal.returns-clause-rest
returns-clause-rest c = All-same (λ hand. IsHandOf c.args.shared.now hand.seat.state) c.pop_front.new.self.items _ c.pop_front.ensures.rest
    (All-drop (λ hand. IsHandOf c.args.shared.now hand.seat.state) 1 c.args.hands.now.items c.requires)
