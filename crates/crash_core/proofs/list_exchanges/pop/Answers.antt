use Rattle.std.proofs.Common.{◌+◌, ◌-◌, refl, ap, sym, arith}
use Rattle.core_model.specs.declared.event.Event.TheVariants.{Pop}
use Rattle.crash_core.proofs.StandingLemmas.{step_not, seat_is}
use Rattle.crash_core.proofs.KeptFacts.{head_fits, pop_fits, unseen_head, unseen_link}
use Rattle.crash_core.proofs.ListSteps.{pop, lost_pop}
use Rattle.crash_core.proofs.list_exchanges.pop.Goals as goal

pub returns-in_default : goal.returns-in_default
returns-in_default c = λ k views v keeps below at going ticket. step_not c.args.core.now k views c.args.seat v Pop
    (λ may seen. unseen_head c.args.core.now k views c.args.seat v c.index-notes.result.now keeps below at
    (seat_is c.requires.seat (sym c.index-notes.ensures)) c.in_default.is may.is_seen)

pub returns-in_default-seen_link : goal.returns-in_default-seen_link
returns-in_default-seen_link c = λ k views v keeps below at going ticket. step_not c.args.core.now k views c.args.seat v Pop
    (λ may seen. unseen_link c.args.core.now k views c.args.seat v c.index-notes.result.now keeps below at
    (seat_is c.requires.seat (sym c.index-notes.ensures)) c.in_default-seen_link.is may.link)

pub overflow_add-at : goal.overflow_add-at
overflow_add-at c = let f = head_fits c.args.core.now c.args.seat c.index-notes.result.now c.in-Some.head c.requires.core c.requires.seat
    (seat_is c.requires.seat (sym c.index-notes.ensures)) c.in-Some.is in let l = f.list in omega arith

pub index-requires : goal.index-requires
index-requires c = let f = head_fits c.args.core.now c.args.seat c.index-notes.result.now c.in-Some.head c.requires.core c.requires.seat
    (seat_is c.requires.seat (sym c.index-notes.ensures)) c.in-Some.is in let l = f.list in let g = f.long in omega arith

pub returns-then-index-head : goal.returns-then-index-head
returns-then-index-head c = λ k views v keeps below at going ticket.
    lost_pop c.args.core.now k views c.args.seat v c.index-notes.result.now keeps below at
    (seat_is c.requires.seat (sym c.index-notes.ensures)) c.in-Some.head c.in-Some.is
    (16 + c.in-Some.head.of) c.index.result.now refl c.index.ensures
    (let e = c.if-index-head.true in omega arith)

pub overflow_sub-d : goal.overflow_sub-d
overflow_sub-d c = let f = pop_fits c.args.core.now c.args.seat c.index-notes.result.now c.in-Some.head c.in-Some-seen_link.link c.requires.core
    c.requires.seat (seat_is c.requires.seat (sym c.index-notes.ensures)) c.in-Some.is c.in-Some-seen_link.is
    (c.requires.ticket c.index-notes.result.now (sym c.index-notes.ensures)) in let some = f.some in let e = c.head_first-d.ensures in omega arith

pub head_after_pop-requires : goal.head_after_pop-requires
head_after_pop-requires c = (pop_fits c.args.core.now c.args.seat c.index-notes.result.now c.in-Some.head c.in-Some-seen_link.link
    c.requires.core c.requires.seat (seat_is c.requires.seat (sym c.index-notes.ensures)) c.in-Some.is c.in-Some-seen_link.is
    (c.requires.ticket c.index-notes.result.now (sym c.index-notes.ensures))).pops

pub index_mut-requires : goal.index_mut-requires
index_mut-requires c = let f = head_fits c.args.core.now c.args.seat c.index-notes.result.now c.in-Some.head c.requires.core c.requires.seat
    (seat_is c.requires.seat (sym c.index-notes.ensures)) c.in-Some.is in let l = f.list in let g = f.long in omega arith

pub index_mut-requires-2 : goal.index_mut-requires-2
index_mut-requires-2 c = let f = pop_fits c.args.core.now c.args.seat c.index-notes.result.now c.in-Some.head c.in-Some-seen_link.link
    c.requires.core c.requires.seat (seat_is c.requires.seat (sym c.index-notes.ensures)) c.in-Some.is c.in-Some-seen_link.is
    (c.requires.ticket c.index-notes.result.now (sym c.index-notes.ensures)) in let some = f.some in let e = c.head_first-d.ensures in
    let h = head_fits c.args.core.now c.args.seat c.index-notes.result.now c.in-Some.head c.requires.core c.requires.seat
    (seat_is c.requires.seat (sym c.index-notes.ensures)) c.in-Some.is in let n = h.first in let s = h.superblocks in omega arith

pub returns : goal.returns
returns c = λ k views v keeps below at going ticket.
    pop c.args.core.now k views c.args.seat v c.index-notes.result.now keeps below at
    (seat_is c.requires.seat (sym c.index-notes.ensures)) c.in-Some.head c.in-Some.is going ticket
    (16 + c.in-Some.head.of) c.index.result.now refl c.index.ensures
    (let e = c.if-index-head.false in omega arith) c.in-Some-seen_link.link c.in-Some-seen_link.is c.head_after_pop.result
    (c.head_first-d.result - 1) c.listed.result c.cleared.result
    c.head_after_pop.ensures.word (ap (λ n. n - 1) c.head_first-d.ensures) c.listed.ensures c.cleared.ensures
