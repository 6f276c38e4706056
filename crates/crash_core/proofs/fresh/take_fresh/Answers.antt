use Rattle.std.proofs.Common.{◌+◌, refl, sym, arith}
use Rattle.core_model.specs.declared.event.Event.TheVariants.{TakeFresh}
use Rattle.crash_core.proofs.StandingLemmas.{step_not, seat_is}
use Rattle.crash_core.proofs.ReadLemmas.{lengths}
use Rattle.crash_core.proofs.KeptFacts.{unseen_used}
use Rattle.crash_core.proofs.FreshSteps.{none_taken, no_room, lost_take, take_fresh}
use Rattle.crash_core.proofs.fresh.take_fresh.Goals as goal

pub returns-in_default : goal.returns-in_default
returns-in_default c = λ k views v keeps below at going ticket. step_not c.args.core.now k views c.args.seat v (TakeFresh c.args.n)
    (λ may seen. unseen_used c.args.core.now k views c.args.seat v c.index-notes.result.now keeps below at
    (seat_is c.requires.seat (sym c.index-notes.ensures)) c.in_default.is may.is_seen)

pub returns-then-n-eq0 : goal.returns-then-n-eq0
returns-then-n-eq0 c = λ k views v keeps below at going ticket. none_taken c.args.core.now k views c.args.seat v c.index-notes.result.now keeps
    below at (seat_is c.requires.seat (sym c.index-notes.ensures)) c.in-Some.used c.in-Some.is c.args.n c.if-n-eq0.true

pub returns-then-n-capacity : goal.returns-then-n-capacity
returns-then-n-capacity c = λ k views v keeps below at going ticket. no_room c.args.core.now k views c.args.seat v c.index-notes.result.now
    keeps below at (seat_is c.requires.seat (sym c.index-notes.ensures)) c.in-Some.used c.in-Some.is c.args.n
    (let e = c.capacity-capacity.ensures in let f = c.if-n-capacity.true in let cap = keeps.capacity in omega arith)

pub returns-then-used-capacity : goal.returns-then-used-capacity
returns-then-used-capacity c = λ k views v keeps below at going ticket. no_room c.args.core.now k views c.args.seat v c.index-notes.result.now
    keeps below at (seat_is c.requires.seat (sym c.index-notes.ensures)) c.in-Some.used c.in-Some.is c.args.n
    (let e = c.capacity-capacity.ensures in let f = c.if-n-capacity.false in let g = c.if-used-capacity.true in let cap = keeps.capacity in omega arith)

pub returns-then-index-used : goal.returns-then-index-used
returns-then-index-used c = λ k views v keeps below at going ticket. lost_take c.args.core.now k views c.args.seat v c.index-notes.result.now
    keeps below at (seat_is c.requires.seat (sym c.index-notes.ensures))
    c.in-Some.used c.in-Some.is c.args.n c.index.result.now c.index.ensures c.if-index-used.true

pub give_range-requires : goal.give_range-requires
give_range-requires c = let l = lengths c.args.core.now c.requires.core in let s = l.superblocks in let e = c.capacity-capacity.ensures in
    let f = c.if-n-capacity.false in let g = c.if-used-capacity.false in omega arith

pub returns : goal.returns
returns c = λ k views v keeps below at going ticket.
    take_fresh c.args.core.now k views c.args.seat v c.index-notes.result.now keeps below at
    (seat_is c.requires.seat (sym c.index-notes.ensures)) c.in-Some.used c.in-Some.is going ticket c.args.n c.index.result.now
    (c.in-Some.used + c.args.n) c.index.ensures (let e = c.if-index-used.false in omega arith)
    (let e = c.if-n-eq0.false in omega arith) (let e = c.capacity-capacity.ensures in let f = c.if-n-capacity.false in
    let g = c.if-used-capacity.false in let cap = keeps.capacity in omega arith) refl
    c.give_range.new.owners c.cleared.result c.give_range.ensures c.cleared.ensures
