use Rattle.std.proofs.Common.{◌∙◌, subst, sym}
use Rattle.std.proofs.lemmas.List.Elements.{All-push, All-same}
use Rattle.handing_tests.specs.Handing.{AreAt, IsHandOf}
use Rattle.handing_tests.proofs.ring.take_turn.Goals as goal

pub act-told-requires : goal.act-told-requires
act-told-requires c = record { at = subst (λ t. AreAt t c.args.ring.now.goods.carriers.items) (sym c.in-Some.ensures.next.table) c.requires.at }

pub returns-in_err-push_back-clause-hands : goal.returns-in_err-push_back-clause-hands
returns-in_err-push_back-clause-hands c = All-same (λ hand. IsHandOf c.args.shared.now hand.seat.state)
    c.push_back.new.self.items _ c.in_err-push_back.ensures.items c.next_hand.ensures.rest

pub returns-in_err-push_back-clause-at : goal.returns-in_err-push_back-clause-at
returns-in_err-push_back-clause-at c = subst (λ t. AreAt t c.act-told.new.goods.carriers.items) (c.act-told.ensures.same.table
    ∙ c.in-Some.ensures.next.table) c.act-told.ensures.at

pub returns-clause-hands : goal.returns-clause-hands
returns-clause-hands c = All-same (λ hand. IsHandOf c.args.shared.now hand.seat.state) c.push_back.new.self.items _ c.in_ok-push_back.ensures.items
    (All-push (λ hand. IsHandOf c.args.shared.now hand.seat.state) c.next_hand.new.hands.items c.act-told.new.hand c.next_hand.ensures.rest
    (record {
      table = c.act-told.ensures.same.table ∙ c.in-Some.ensures.next.table;
      setup = c.act-told.ensures.same.setup ∙ c.in-Some.ensures.next.setup;
    }))

pub returns-clause-at : goal.returns-clause-at
returns-clause-at c = subst (λ t. AreAt t c.act-told.new.goods.carriers.items) (c.act-told.ensures.same.table
    ∙ c.in-Some.ensures.next.table) c.act-told.ensures.at
