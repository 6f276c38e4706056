use Rattle.std.proofs.Common.{arith, subst}
use Rattle.cache_fill.specs.Refills.{Refills}
use Rattle.seat_costs.proofs.AskedLemmas.{asked_then}
use Rattle.thread_cache.proofs.GrantLemmas.{alloc_light, alloc_row, filled_alloc, full_light, full_row, order_held, order_still, stopped_row}
use Rattle.seat_costs.proofs.ResultLemmas.{on_err}
use Rattle.thread_cache.proofs.small.alloc_small.Goals as goal

pub returns-in_err-block-in-Filled-clause-none : goal.returns-in_err-block-in-Filled-clause-none
returns-in_err-block-in-Filled-clause-none g c = on_err c.from_residual-in_err-block-in-Filled.result
    (stopped_row c.args.seat.now c.refill.new.seat c.args.class.number c.alloc_cached-in-Filled.new.seat c.refill.ensures.row
    c.in_err-block-in-Filled.ensures.none)

pub returns-in_err-block-in-Filled-clause-row : goal.returns-in_err-block-in-Filled-clause-row
returns-in_err-block-in-Filled-clause-row g c = alloc_row c.args.seat.now c.refill.new.seat c.args.class.number
    c.alloc_cached-in-Filled.new.seat c.refill.ensures.row c.alloc_cached-in-Filled.ensures.row

pub returns-in-Full-clause-light : goal.returns-in-Full-clause-light
returns-in-Full-clause-light g c = λ same. full_light c.args.seat.now c.refill.new.seat c.args.class.number (c.in_ok-looks.ensures.light same)

pub returns-in-Full-clause-row : goal.returns-in-Full-clause-row
returns-in-Full-clause-row g c = full_row c.args.seat.now c.refill.new.seat c.args.class.number c.refill.ensures.row

pub returns-in_ok-block-in-Filled-clause-allocated : goal.returns-in_ok-block-in-Filled-clause-allocated
returns-in_ok-block-in-Filled-clause-allocated g c = filled_alloc c.args.seat.now.view c.refill.new.seat.view
    c.alloc_cached-in-Filled.new.seat.view c.args.class.number c.in_ok-block-in-Filled.block
    (let s = c.recall_soundness.ensures in let last = c.args.class.is.last in
    let long = (s.sound.good.set_up s.seat c.args.seat.now.view s.below s.at).caches in omega (arith, last, long))
    (let n = c.cache-count.ensures.count in omega arith)
    (subst (λ filling. Refills c.args.class.number filling c.args.seat.now.view c.refill.new.seat.view)
    c.in-Filled.is c.in_ok-looks.ensures.done)
    (let most = c.alloc_cached-in-Filled.ensures.row.passes.most.cuts in omega (arith, most)) c.in_ok-block-in-Filled.ensures.allocated

pub returns-in_ok-block-in-Filled-clause-light : goal.returns-in_ok-block-in-Filled-clause-light
returns-in_ok-block-in-Filled-clause-light g c = alloc_light c.args.seat.now c.refill.new.seat c.args.class.number
    c.alloc_cached-in-Filled.new.seat c.refill.ensures.row c.in_ok-looks.ensures.light c.alloc_cached-in-Filled.ensures.row

pub returns-in_ok-block-in-Filled-clause-row : goal.returns-in_ok-block-in-Filled-clause-row
returns-in_ok-block-in-Filled-clause-row g c = alloc_row c.args.seat.now c.refill.new.seat c.args.class.number c.alloc_cached-in-Filled.new.seat
    c.refill.ensures.row c.alloc_cached-in-Filled.ensures.row

pub returns-in-Full-clause-drew : goal.returns-in-Full-clause-drew
returns-in-Full-clause-drew g c = let full = subst (λ filling. Refills c.args.class.number filling c.args.seat.now.view c.refill.new.seat.view)
    c.in-Full.is c.in_ok-looks.ensures.done in
    let since = full.since in let first = full.class_first in let second = full.free_second in let last = full.last in omega arith

pub returns-then-count-gt0-clause-order : goal.returns-then-count-gt0-clause-order
returns-then-count-gt0-clause-order g c = order_held c.args.class.number c.args.seat.now c.alloc_cached.new.seat c.alloc_cached.ensures.row

pub returns-in-Full-clause-order : goal.returns-in-Full-clause-order
returns-in-Full-clause-order g c = c.in_ok-looks.ensures.order

pub returns-in_ok-block-in-Filled-clause-order : goal.returns-in_ok-block-in-Filled-clause-order
returns-in_ok-block-in-Filled-clause-order g c = order_still c.args.class.number c.args.seat.now.view c.refill.new.seat
    c.alloc_cached-in-Filled.new.seat c.in_ok-looks.ensures.order c.in_ok-block-in-Filled.ensures.looks c.alloc_cached-in-Filled.ensures.row

pub returns-then-count-gt0-clause-cached : goal.returns-then-count-gt0-clause-cached
returns-then-count-gt0-clause-cached g c = λ some. c.alloc_cached.ensures.row

pub returns-in-Full-clause-cached : goal.returns-in-Full-clause-cached
returns-in-Full-clause-cached g c = λ some. absurd (let n = c.cache-count.ensures.count in omega (arith, some, n))

pub returns-in_err-block-in-Filled-clause-cached : goal.returns-in_err-block-in-Filled-clause-cached
returns-in_err-block-in-Filled-clause-cached g c = λ some. absurd (let n = c.cache-count.ensures.count in omega (arith, some, n))

pub returns-in_ok-block-in-Filled-clause-cached : goal.returns-in_ok-block-in-Filled-clause-cached
returns-in_ok-block-in-Filled-clause-cached g c = λ some. absurd (let n = c.cache-count.ensures.count in omega (arith, some, n))

pub returns-in_err-block-in-Filled-clause-asked : goal.returns-in_err-block-in-Filled-clause-asked
returns-in_err-block-in-Filled-clause-asked g c = asked_then c.refill.ensures.asked c.alloc_cached-in-Filled.ensures.asked

pub returns-in_ok-block-in-Filled-clause-asked : goal.returns-in_ok-block-in-Filled-clause-asked
returns-in_ok-block-in-Filled-clause-asked g c = asked_then c.refill.ensures.asked c.alloc_cached-in-Filled.ensures.asked
