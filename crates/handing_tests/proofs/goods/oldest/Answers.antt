use Rattle.std.proofs.Common.{◌≡◌}
use Rattle.std.proofs.lemmas.List.Elements.{All-drop, All-same}
use Rattle.heap_rule.specs.Carried.{CarrierView}
use Rattle.handing_tests.proofs.goods.oldest.Goals as goal

pub returns-clause-rest : goal.returns-clause-rest
returns-clause-rest c = let table = c.args.hand.now.seat.state.table in
    All-same (λ (x : CarrierView). x.table ≡ table) c.pop_front.new.self.items _ c.pop_front.ensures.rest
    (All-drop (λ (x : CarrierView). x.table ≡ table) 1 c.args.goods.now.carriers.items c.requires)
