use Rattle.std.proofs.Common.{◌∙◌, subst}
use Rattle.std.proofs.lemmas.List.Elements.{All-push, All-same}
use Rattle.handing_tests.specs.Handing.{AreAt, IsHandOf}
use Rattle.handing_tests.proofs.ring.work.Goals as goal

pub go_on-told-requires-clause-hands : goal.go_on-told-requires-clause-hands
go_on-told-requires-clause-hands c = All-same (λ hand. IsHandOf c.args.shared.now hand.seat.state)
    c.push_back.new.self.items _ c.in_ok-push_back.ensures.items
    (All-push (λ hand. IsHandOf c.args.shared.now hand.seat.state) c.in_ok-hands.hands.items c.begin-begun.new.hand c.in_ok-hands.ensures
    (record {
      table = c.begin-begun.ensures.same.table ∙ c.in-Some.ensures.hand.table;
      setup = c.begin-begun.ensures.same.setup ∙ c.in-Some.ensures.hand.setup;
    }))

pub go_on-told-requires-clause-at : goal.go_on-told-requires-clause-at
go_on-told-requires-clause-at c = subst (λ t. AreAt t c.begin-begun.new.goods.carriers.items) (c.begin-begun.ensures.same.table
    ∙ c.in-Some.ensures.hand.table) c.begin-begun.ensures.at
