use Rattle.std.proofs.Common.{sym, arith}
use Rattle.crash_core.proofs.WordSteps.{draw, stop, ticket_fits}
use Rattle.crash_core.proofs.words.draw.Goals as goal
use Rattle.crash_core.proofs.StandingLemmas.{seat_is}

pub returns-then-ticket-core : goal.returns-then-ticket-core
returns-then-ticket-core c = λ k views v keeps below at going ticket. stop c.args.core.now k views c.args.seat v c.index-notes.result.now keeps
    below at (seat_is c.requires.seat (sym c.index-notes.ensures))
    going c.ticket_place-at.result c.index-ticket.result.now c.ticket_place-at.ensures c.index-ticket.ensures c.if-ticket-core.true

pub returns : goal.returns
returns c = λ k views v keeps below at going ticket. draw c.args.core.now k views c.args.seat v c.index-notes.result.now keeps below at
    (seat_is c.requires.seat (sym c.index-notes.ensures)) going c.ticket_place-at.result c.index-ticket.result.now c.ticket_place-at.ensures
    c.index-ticket.ensures (let e = c.if-ticket-core.false in omega arith)

pub overflow_add-ticket : goal.overflow_add-ticket
overflow_add-ticket c = let f = ticket_fits c.args.core.now c.ticket_place-at.result c.index-ticket.result.now c.requires.core
    c.ticket_place-at.ensures c.index-ticket.ensures in omega arith
