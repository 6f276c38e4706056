use Rattle.std.proofs.Common.{◌+◌, refl, sym, true≢false, arith}
use Rattle.heap_model.specs.Geometry.{largest_capacity_fits}
use Rattle.core_model.specs.declared.event.Event.TheVariants.{Push}
use Rattle.crash_core.proofs.StandingLemmas.{step_not, seat_is}
use Rattle.crash_core.proofs.ReadLemmas.{lengths}
use Rattle.crash_core.proofs.KeptFacts.{head_fits, unseen_head}
use Rattle.crash_core.proofs.ListSteps.{lost_push}
use Rattle.crash_core.proofs.PushSteps.{push}
use Rattle.crash_core.proofs.list_exchanges.push.Goals as goal

pub returns-in_default : goal.returns-in_default
returns-in_default c = λ k views v keeps below at going ticket. step_not c.args.core.now k views c.args.seat v (Push c.args.d)
    (λ may seen. unseen_head c.args.core.now k views c.args.seat v c.index-notes.result.now keeps below at
    (seat_is c.requires.seat (sym c.index-notes.ensures)) c.in_default.is may.is_seen)

pub returns-then-not-may_push : goal.returns-then-not-may_push
returns-then-not-may_push c = λ k views v keeps below at going ticket. step_not c.args.core.now k views c.args.seat v (Push c.args.d)
    (λ may seen. true≢false (sym ((c.if-not-may_push.ensures.decides k views v keeps below at).1 may)))

pub overflow_add-at : goal.overflow_add-at
overflow_add-at c = let f = head_fits c.args.core.now c.args.seat c.index-notes.result.now c.in-Some.head c.requires.core c.requires.seat
    (seat_is c.requires.seat (sym c.index-notes.ensures)) c.in-Some.is in let l = f.list in omega arith

pub index-requires : goal.index-requires
index-requires c = let f = head_fits c.args.core.now c.args.seat c.index-notes.result.now c.in-Some.head c.requires.core c.requires.seat
    (seat_is c.requires.seat (sym c.index-notes.ensures)) c.in-Some.is in let l = f.list in let g = f.long in omega arith

pub returns-then-index-head : goal.returns-then-index-head
returns-then-index-head c = λ k views v keeps below at going ticket.
    lost_push c.args.core.now k views c.args.seat v c.index-notes.result.now keeps below at
    (seat_is c.requires.seat (sym c.index-notes.ensures)) c.in-Some.head c.in-Some.is c.args.d
    (16 + c.in-Some.head.of) c.index.result.now refl c.index.ensures c.if-index-head.true

pub index_mut-requires : goal.index_mut-requires
index_mut-requires c = let f = head_fits c.args.core.now c.args.seat c.index-notes.result.now c.in-Some.head c.requires.core c.requires.seat
    (seat_is c.requires.seat (sym c.index-notes.ensures)) c.in-Some.is in let l = f.list in let g = f.long in omega arith

pub head_after_push-requires : goal.head_after_push-requires
head_after_push-requires c = let small = c.args.core.now.geometry.small in let fits = largest_capacity_fits in
    let b = c.if-not-may_push.ensures.below refl in omega arith

pub index_mut-requires-2 : goal.index_mut-requires-2
index_mut-requires-2 c = let l = lengths c.args.core.now c.requires.core in let s = l.superblocks in
    let b = c.if-not-may_push.ensures.below refl in omega arith

pub returns : goal.returns
returns c = λ k views v keeps below at going ticket.
    push c.args.core.now k views c.args.seat v c.index-notes.result.now keeps below at
    (seat_is c.requires.seat (sym c.index-notes.ensures)) c.in-Some.head c.in-Some.is going ticket
    (16 + c.in-Some.head.of) c.index.result.now refl c.index.ensures
    (let e = c.if-index-head.false in omega arith) c.args.d ((c.if-not-may_push.ensures.decides k views v keeps below at).0 refl)
    (let l = lengths c.args.core.now c.requires.core in let s = l.superblocks in let b = c.if-not-may_push.ensures.below refl in omega arith)
    c.head_after_push.result c.cleared.result c.head_after_push.ensures.word c.cleared.ensures
