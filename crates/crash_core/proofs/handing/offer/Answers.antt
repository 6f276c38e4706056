use Rattle.std.proofs.Common.{ap, sym, ◌∙◌, true≢false}
use Rattle.heap_model.specs.Counting.{one_if}
use Rattle.core_model.specs.declared.answer.StepAnswer.TheVariants.{Done}
use Rattle.crash_core.specs.Standing.{held_in}
use Rattle.crash_core.proofs.OfferDecision.{offer_stopped, offer_no_ticket, offer_not_held, offered_core, no_ticket, seat_of}
use Rattle.crash_core.proofs.StandingLemmas.{among, seat_is}
use Rattle.crash_core.proofs.handing.offer.Goals as goal

pub returns-in-Some-clause-follows : goal.returns-in-Some-clause-follows
returns-in-Some-clause-follows c = offer_stopped c.args.core.now c.args.seat c.args.block c.index.result.now c.in-Some.step
    (seat_is c.requires.seat (sym c.index.ensures)) c.in-Some.is

pub returns-then-is_none-clause-follows : goal.returns-then-is_none-clause-follows
returns-then-is_none-clause-follows c = offer_no_ticket c.args.core.now c.args.seat c.args.block c.index.result.now
    (seat_is c.requires.seat (sym c.index.ensures)) c.in_default.is
    (no_ticket c.index.result.now.ticket c.is_none.result c.is_none.ensures c.if-is_none.true)

pub returns-then-is_held-clause-core : goal.returns-then-is_held-clause-core
returns-then-is_held-clause-core c = offered_core c.args.core.now c.offer_small.new.core c.args.seat c.args.block Done c.requires.core
    c.offer_small.ensures

pub returns-then-may_split-clause-core : goal.returns-then-may_split-clause-core
returns-then-may_split-clause-core c = offered_core c.args.core.now c.offer_large.new.core c.args.seat c.args.block Done c.requires.core
    c.offer_large.ensures

pub returns-clause-follows : goal.returns-clause-follows
returns-clause-follows c = offer_not_held c.args.core.now c.args.seat c.args.block c.index.result.now
    (seat_is c.requires.seat (sym c.index.ensures)) c.in_default.is
    (sym (sym (ap one_if c.if-is_held.false) ∙ c.is_held.ensures ∙ ap held_in c.place.ensures))
    (λ k s stands may. true≢false (sym ((c.may_split.ensures k s.views
    (seat_of c.args.core.now k s c.args.seat c.index.result.now stands (seat_is c.requires.seat (sym c.index.ensures))).view stands.keeps
    (among stands.keeps c.requires.seat)
    (seat_of c.args.core.now k s c.args.seat c.index.result.now stands (seat_is c.requires.seat (sym c.index.ensures))).at).1 may)
    ∙ c.if-may_split.false))
