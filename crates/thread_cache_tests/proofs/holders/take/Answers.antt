use Rattle.std.proofs.Common.{List, subst, sym}
use Rattle.heap_model.specs.declared.block.Block.{Block}
use Rattle.thread_cache_tests.specs.Holding.{Holds}
use Rattle.thread_cache_tests.proofs.HoldLemmas.{holds_more, holds_still}
use Rattle.thread_cache_tests.proofs.holders.take.Goals as goal

pub returns-in_err-b-clause-holds : goal.returns-in_err-b-clause-holds
returns-in_err-b-clause-holds g c = subst (λ (held : List Block). Holds held c.args.given.now.items) (sym c.in_err-b.ensures.err) c.requires

pub returns-in_err-push_block-clause-holds : goal.returns-in_err-push_block-clause-holds
returns-in_err-push_block-clause-holds g c = subst (Holds (g.H.HeapSeat.view c.ask.new.seat).held) (sym c.in_err-push_block.ensures.err)
    (holds_still c.args.given.now.items c.in_ok-b.b (g.H.HeapSeat.view c.args.seat.now)
    (g.H.HeapSeat.view c.ask.new.seat) c.in_ok-b.ensures.ok c.requires)

pub returns-clause-holds : goal.returns-clause-holds
returns-clause-holds g c = holds_more c.args.given.now.items c.push_block.new.given.items c.in_ok-b.b (g.H.HeapSeat.view c.args.seat.now)
    (g.H.HeapSeat.view c.ask.new.seat)
    c.in_ok-b.ensures.ok c.in_ok-push_block.ensures.ok c.requires
