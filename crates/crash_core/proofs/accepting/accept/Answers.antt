use Rattle.std.proofs.Common.{refl, sym, true≢false}
use Rattle.core_model.specs.declared.answer.StepAnswer.TheVariants.{Done}
use Rattle.crash_core.proofs.AcceptDecision.{accept_no_ticket, accept_none, accept_stopped, accepted_core}
use Rattle.crash_core.proofs.OfferDecision.{no_ticket}
use Rattle.crash_core.proofs.StandingLemmas.{seat_is}
use Rattle.crash_core.proofs.accepting.accept.Goals as goal

pub returns-in-Some-clause-follows : goal.returns-in-Some-clause-follows
returns-in-Some-clause-follows c = accept_stopped c.args.core.now c.args.seat c.args.carrier c.index.result.now c.in-Some.step
    (seat_is c.requires.seat (sym c.index.ensures)) c.in-Some.is

pub returns-then-is_none-clause-follows : goal.returns-then-is_none-clause-follows
returns-then-is_none-clause-follows c = accept_no_ticket c.args.core.now c.args.seat c.args.carrier c.index.result.now
    (seat_is c.requires.seat (sym c.index.ensures)) c.in_default.is
    (no_ticket c.index.result.now.ticket c.is_none.result c.is_none.ensures c.if-is_none.true)

pub returns-then-not-carries_block-clause-follows : goal.returns-then-not-carries_block-clause-follows
returns-then-not-carries_block-clause-follows c = accept_none c.args.core.now c.args.seat c.args.carrier c.index.result.now
    (seat_is c.requires.seat (sym c.index.ensures)) c.in_default.is
    (λ carries. true≢false (sym (c.if-not-carries_block.ensures.1 carries)))

pub accept_block-requires-clause-carries : goal.accept_block-requires-clause-carries
accept_block-requires-clause-carries c = c.if-not-carries_block.ensures.0 refl

pub returns-clause-core : goal.returns-clause-core
returns-clause-core c = accepted_core c.args.core.now c.accept_block.new.core c.args.seat c.args.carrier Done c.requires.core c.accept_block.ensures
