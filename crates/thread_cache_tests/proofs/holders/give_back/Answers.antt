use Rattle.std.proofs.Common.{rules, ◌≡◌, subst}
use Rattle.thread_cache_tests.specs.Holding.{IsNoneOf}
use Rattle.thread_cache_tests.proofs.HoldLemmas.{holds_less}
use Rattle.thread_cache_tests.proofs.holders.give_back.Goals as goal

pub returns-clause-holds : goal.returns-clause-holds
returns-clause-holds g c =
    let same : c.deref.result.now ≡ c.swap_remove-b.new.self.items = search rules in
    let none : IsNoneOf c.swap_remove-b.result c.deref.result.now = c.is_among.ensures c.if-is_among.false in
    holds_less c.args.given.now.items c.swap_remove-b.new.self.items c.swap_remove-b.result c.args.index (g.H.HeapSeat.view c.args.seat.now)
    (g.H.HeapSeat.view c.free.new.self)
    c.free.ensures.others (subst (λ l. IsNoneOf c.swap_remove-b.result l) same none) (search rules) (search rules) (search rules) c.requires
