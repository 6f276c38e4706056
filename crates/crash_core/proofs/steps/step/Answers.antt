use Rattle.std.proofs.Common.{refl, sym, true≢false}
use Rattle.crash_core.proofs.EventSteps.{core_of, follows_stopped, follows_not, follows_taken, core_after, seats_after}
use Rattle.crash_core.proofs.steps.step.Goals as goal
use Rattle.crash_core.proofs.StandingLemmas.{seat_is}

pub returns-in-Some-clause-follows : goal.returns-in-Some-clause-follows
returns-in-Some-clause-follows c = follows_stopped c.args.core.now c.args.seat c.index-notes.result.now c.args.event
    (seat_is c.requires.seat (sym c.index-notes.ensures)) c.in-Some.step c.in-Some.is

pub returns-then-not-has_ticket_for-clause-follows : goal.returns-then-not-has_ticket_for-clause-follows
returns-then-not-has_ticket_for-clause-follows c = follows_not c.args.core.now c.args.seat c.index-notes.result.now c.args.event
    (seat_is c.requires.seat (sym c.index-notes.ensures)) c.in_default.is
    (λ has. true≢false (sym (c.if-not-has_ticket_for.ensures.1 has)))

pub returns-clause-follows : goal.returns-clause-follows
returns-clause-follows c = follows_taken c.args.core.now c.args.seat c.index-notes.result.now c.args.event
    (seat_is c.requires.seat (sym c.index-notes.ensures)) c.in_default.is
    (c.if-not-has_ticket_for.ensures.0 refl) c.take_step.new.core c.take_step.result c.take_step.ensures

pub returns-clause-core : goal.returns-clause-core
returns-clause-core c = core_after c.args.core.now c.take_step.new.core c.args.seat c.args.event c.take_step.result c.requires.core
    (follows_taken c.args.core.now c.args.seat c.index-notes.result.now c.args.event
    (seat_is c.requires.seat (sym c.index-notes.ensures)) c.in_default.is
    (c.if-not-has_ticket_for.ensures.0 refl) c.take_step.new.core c.take_step.result c.take_step.ensures)

pub returns-clause-seats : goal.returns-clause-seats
returns-clause-seats c = seats_after c.args.core.now c.take_step.new.core c.args.seat c.args.event c.take_step.result c.requires.core
    (follows_taken c.args.core.now c.args.seat c.index-notes.result.now c.args.event
    (seat_is c.requires.seat (sym c.index-notes.ensures)) c.in_default.is
    (c.if-not-has_ticket_for.ensures.0 refl) c.take_step.new.core c.take_step.result c.take_step.ensures)

pub take_step-requires-clause-core : goal.take_step-requires-clause-core
take_step-requires-clause-core c = core_of c.args.core.now c.requires.core
