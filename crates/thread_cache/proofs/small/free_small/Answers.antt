use Rattle.std.proofs.Common.{arith}
use Rattle.seat_costs.proofs.AskedLemmas.{asked_then}
use Rattle.thread_cache.proofs.FlushedLemmas.{flushed_row, freed_flushed, freed_short, one_more}
use Rattle.seat_costs.proofs.ResultLemmas.{on_ok_then}
use Rattle.thread_cache.proofs.small.free_small.Goals as goal

pub returns-then-count-blocks_of-clause-freed : goal.returns-then-count-blocks_of-clause-freed
returns-then-count-blocks_of-clause-freed g c =
    freed_short c.args.seat.now.view c.free_cached.new.seat.view c.recall_soundness.ensures c.args.class.number c.args.block c.args.class.is
    c.in_ok-free_cached.ensures.cached
    (let low = c.if-count-blocks_of.true in let a = c.cache-count.ensures.count in let blocks = c.blocks_of.ensures in omega arith)

pub returns-clause-freed : goal.returns-clause-freed
returns-clause-freed g c = let cached = c.in_ok-free_cached.ensures.cached in
    on_ok_then c.flush.result (freed_flushed c.args.seat.now.view c.free_cached.new.seat.view c.recall_soundness.ensures c.args.class.number
    c.args.block c.args.class.is cached c.flush.new.seat.view c.free_cached.ensures.row.passes.more.gives
    c.free_cached.ensures.row.passes.most.gives
    (let a = c.cache-count.ensures.count in omega arith)) c.flush.ensures.flushed

pub returns-clause-light : goal.returns-clause-light
returns-clause-light g c = λ light. absurd (let cached = c.in_ok-free_cached.ensures.cached in
    let more = one_more c.args.seat.now.view c.free_cached.new.seat.view c.recall_soundness.ensures c.args.class.number c.args.block
    c.args.class.is cached in let a = c.cache-count.ensures.count in omega (arith, light))

pub returns-clause-row : goal.returns-clause-row
returns-clause-row g c = let cached = c.in_ok-free_cached.ensures.cached in
    let few = c.requires.short.each c.args.class.number c.args.class.is in
    let more = one_more c.args.seat.now.view c.free_cached.new.seat.view c.recall_soundness.ensures c.args.class.number c.args.block
    c.args.class.is cached in
    flushed_row c.args.seat.now c.free_cached.new.seat c.flush.new.seat c.recall_soundness.ensures c.args.class.number c.args.block
    c.args.class.is c.requires.held c.free_cached.ensures.may (omega (arith, few, more)) c.free_cached.ensures.row c.flush.ensures.row

pub returns-clause-asked : goal.returns-clause-asked
returns-clause-asked g c = asked_then c.free_cached.ensures.asked c.flush.ensures.asked
