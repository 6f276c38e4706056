use Rattle.std.proofs.Common.{◌≡◌, ◌*◌, Some, refl, sym, true≢false, arith}
use Rattle.heap_model.specs.Geometry.{image_words}
use Rattle.core_model.specs.declared.event.Event.TheVariants.{Tick}
use Rattle.core_model.specs.ViewAfter.{shifted}
use Rattle.crash_core.proofs.StandingLemmas.{step_not, seat_is}
use Rattle.crash_core.proofs.ReadLemmas.{lengths}
use Rattle.crash_core.proofs.WordSteps.{ticket_fits}
use Rattle.crash_core.proofs.TickSteps.{stop_with, draw_with, same_lengths}
use Rattle.crash_core.proofs.ticks.draw_with.Goals as goal

pub returns-then-not-may_shift : goal.returns-then-not-may_shift
returns-then-not-may_shift c = λ k views v keeps below at going ticket. step_not c.args.core.now k views c.args.seat v (Tick (Some c.args.shift))
    (λ may seen. true≢false (sym ((c.if-not-may_shift.ensures k views v keeps below at).1 may)))

pub overflow_add-ticket : goal.overflow_add-ticket
overflow_add-ticket c = let e : c.ticket_place-at.result ≡ 2 * image_words c.args.core.now.geometry.capacity = c.ticket_place-at.ensures in
    let t = ticket_fits c.args.core.now c.ticket_place-at.result c.index-ticket.result.now c.requires.core
    (omega arith) c.index-ticket.ensures in omega arith

pub returns-then-ticket-core : goal.returns-then-ticket-core
returns-then-ticket-core c = λ k views v keeps below at going ticket.
    let e : c.ticket_place-at.result ≡ 2 * image_words c.args.core.now.geometry.capacity = c.ticket_place-at.ensures in
    stop_with c.args.core.now k views c.args.seat v c.index-notes.result.now keeps below at
    (seat_is c.requires.seat (sym c.index-notes.ensures)) c.args.shift ((c.if-not-may_shift.ensures k views v keeps below at).0 refl)
    c.ticket_place-at.result c.index-ticket.result.now (omega arith) c.index-ticket.ensures going (let f = c.if-ticket-core.true in omega arith)

pub index_mut-requires-2 : goal.index_mut-requires-2
index_mut-requires-2 c = let s = (same_lengths c.args.core.now c.make_shift.new.core c.args.seat
    (λ m v. shifted m v (Some c.args.shift)) c.requires.core c.requires.seat c.make_shift.ensures).words in
    let l = (lengths c.args.core.now c.requires.core).words in let e : c.ticket_place-at.result ≡ 2 * image_words
    c.args.core.now.geometry.capacity = c.ticket_place-at.ensures in omega arith

pub index-changed-requires : goal.index-changed-requires
index-changed-requires c = let s = (same_lengths c.args.core.now c.make_shift.new.core c.args.seat
    (λ m v. shifted m v (Some c.args.shift)) c.requires.core c.requires.seat c.make_shift.ensures).seats in let l = c.requires.seat in omega arith

pub index_mut-requires-3 : goal.index_mut-requires-3
index_mut-requires-3 c = let s = (same_lengths c.args.core.now c.make_shift.new.core c.args.seat
    (λ m v. shifted m v (Some c.args.shift)) c.requires.core c.requires.seat c.make_shift.ensures).seats in let l = c.requires.seat in omega arith

pub returns : goal.returns
returns c = λ k views v keeps below at going ticket. let e : c.ticket_place-at.result ≡ 2 * image_words c.args.core.now.geometry.capacity =
    c.ticket_place-at.ensures in
    draw_with c.args.core.now k views c.args.seat v c.index-notes.result.now keeps below at
    (seat_is c.requires.seat (sym c.index-notes.ensures)) c.args.shift ((c.if-not-may_shift.ensures k views v keeps below at).0 refl)
    c.ticket_place-at.result c.index-ticket.result.now (omega arith) c.index-ticket.ensures going (let f = c.if-ticket-core.false in omega arith)
    c.make_shift.new.core (c.make_shift.ensures k views v c.index-notes.result.now keeps below at
    (seat_is c.requires.seat (sym c.index-notes.ensures))) c.index-changed.result.now c.index-changed.ensures
