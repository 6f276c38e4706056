use Rattle.std.proofs.Common.{ℕ, arith, subst}
use Rattle.large_block.specs.Fresh.{IsPast, Takes}
use Rattle.large_block.specs.declared.fresh.Take.TheVariants.{Got}
use Rattle.large_block.specs.Holds.{HasHeld}
use Rattle.seat_costs.specs.Rows.{Row}
use Rattle.seat_costs.proofs.AskedLemmas.{asked_then}
use Rattle.thread_cache.proofs.SpanLemmas.{allocated, held_row, no_room, not_held_row, taking}
use Rattle.seat_costs.proofs.ResultLemmas.{on_err}
use Rattle.thread_cache.proofs.large.alloc_large.Goals as goal

pub returns-in-Past-clause-refused : goal.returns-in-Past-clause-refused
returns-in-Past-clause-refused g c =
    no_room c.args.seat.now.view c.take_fresh.new.seat.view _ c.in-Past.used
    (subst (λ (n : ℕ). IsPast n c.in-Past.used c.args.seat.now.view c.take_fresh.new.seat.view) c.span_of-n.ensures
    (subst (λ take. Takes c.span_of-n.result take c.args.seat.now.view c.take_fresh.new.seat.view) c.in-Past.is c.in_ok-d.ensures.done))

pub returns-in_err-hold-clause-none : goal.returns-in_err-hold-clause-none
returns-in_err-hold-clause-none g c =
    on_err c.from_residual-in_err-hold.result
    (not_held_row c.args.seat.now c.take_fresh.new.seat c.hold.new.seat _
    (subst (λ (n : ℕ). Row (taking n) c.args.seat.now c.take_fresh.new.seat) c.span_of-n.ensures c.take_fresh.ensures.row)
    c.in_err-hold.ensures.none)

pub returns-in_err-hold-clause-row : goal.returns-in_err-hold-clause-row
returns-in_err-hold-clause-row g c =
    held_row c.args.seat.now c.take_fresh.new.seat c.hold.new.seat _
    (subst (λ (n : ℕ). Row (taking n) c.args.seat.now c.take_fresh.new.seat) c.span_of-n.ensures c.take_fresh.ensures.row) c.hold.ensures.row

pub returns-clause-row : goal.returns-clause-row
returns-clause-row g c =
    held_row c.args.seat.now c.take_fresh.new.seat c.hold.new.seat _
    (subst (λ (n : ℕ). Row (taking n) c.args.seat.now c.take_fresh.new.seat) c.span_of-n.ensures c.take_fresh.ensures.row) c.hold.ensures.row

pub returns-clause-allocated : goal.returns-clause-allocated
returns-clause-allocated g c =
    allocated c.args.seat.now.view c.take_fresh.new.seat.view c.hold.new.seat.view _ c.in-Got.d c.in_ok-hold.field-0 c.requires.idle
    (subst (λ (n : ℕ). Takes n (Got c.in-Got.d) c.args.seat.now.view c.take_fresh.new.seat.view) c.span_of-n.ensures
    (subst (λ take. Takes c.span_of-n.result take c.args.seat.now.view c.take_fresh.new.seat.view) c.in-Got.is c.in_ok-d.ensures.done))
    (subst (λ (n : ℕ). HasHeld c.in-Got.d n c.in_ok-hold.field-0 c.take_fresh.new.seat.view c.hold.new.seat.view)
    c.span_of-n.ensures c.in_ok-hold.ensures.held)
    c.hold.ensures.row.passes.next (let least = c.hold.ensures.row.passes.more.taken in let most = c.hold.ensures.row.passes.most.taken in omega arith)

pub returns-in_err-hold-clause-asked : goal.returns-in_err-hold-clause-asked
returns-in_err-hold-clause-asked g c = asked_then c.take_fresh.ensures.asked c.hold.ensures.asked

pub returns-clause-asked : goal.returns-clause-asked
returns-clause-asked g c = asked_then c.take_fresh.ensures.asked c.hold.ensures.asked
