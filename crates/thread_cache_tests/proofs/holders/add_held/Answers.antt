use Rattle.std.proofs.Common.{arith, refl}
use Rattle.thread_cache_tests.proofs.HoldLemmas.{holds_also}
use Rattle.thread_cache_tests.proofs.holders.add_held.Goals as goal

pub overflow_mul-offset : goal.overflow_mul-offset
overflow_mul-offset g c = let short = ((g.met.H.HeapSeat.seat c.args.seat.now).placed c.args.b c.requires.held).short in omega arith

pub block-requires : goal.block-requires
block-requires g c = (c.args.b, c.requires.held, refl)

pub returns : goal.returns
returns g c = holds_also (g.H.HeapSeat.view c.args.seat.now).held c.args.given.now.items c.push_block.new.given.items c.block.result
    c.block.ensures.held c.in_ok-push_block.ensures.ok c.requires.holds
