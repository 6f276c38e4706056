use Rattle.std.proofs.Common.{refl, sym, true≢false, arith}
use Rattle.seat_state.proofs.DecisionLemmas.{refused}
use Rattle.seat_state.proofs.WordLemmas.{entry_there}
use Rattle.crash_core.proofs.MoveSteps.{alloc_fits}
use Rattle.crash_core.proofs.LiftSteps.{lift_alloc, lift_empty, lift_unlinked, lift_apart, lift_behind, last_range}
use Rattle.crash_core.proofs.moves.may_lift.Goals as goal
use Rattle.crash_core.proofs.StandingLemmas.{among, seat_is}

pub returns-then-not-may_alloc : goal.returns-then-not-may_alloc
returns-then-not-may_alloc c = λ k views v keeps below at. refused
    (λ may. true≢false (sym ((c.if-not-may_alloc.ensures k views v keeps below at).1
    (lift_alloc c.args.core.now k views c.args.seat v (entry_there c.args.core.now.seats.items c.args.seat c.requires.seat).0 keeps below at
    (seat_is c.requires.seat (entry_there c.args.core.now.seats.items c.args.seat c.requires.seat).1) c.args.class may))))

pub returns-then-notes-eq0 : goal.returns-then-notes-eq0
returns-then-notes-eq0 c = λ k views v keeps below at. (
  λ e. lift_empty c.args.core.now k views c.args.seat v c.index.result.now keeps below at
      (seat_is c.requires.seat (sym c.index.ensures)) c.args.class ((c.if-not-may_alloc.ensures k views v keeps below at).0 refl)
      c.if-notes-eq0.true,
  λ may. refl,
)

pub returns-then-not-notes : goal.returns-then-not-notes
returns-then-not-notes c = λ k views v keeps below at. refused (lift_unlinked c.args.core.now k views c.args.seat v c.index.result.now keeps
    below at (seat_is c.requires.seat (sym c.index.ensures)) c.args.class
    ((c.if-not-may_alloc.ensures k views v keeps below at).0 refl) c.if-notes-eq0.false c.if-not-notes.true)

pub superblock_of-d-requires : goal.superblock_of-d-requires
superblock_of-d-requires c = let f = (alloc_fits c.args.core.now c.args.seat c.args.class c.index.result.now c.requires.core c.requires.seat
    (seat_is c.requires.seat (sym c.index.ensures)) c.if-not-may_alloc.ensures).from in omega arith

pub returns-then-notes-d : goal.returns-then-notes-d
returns-then-notes-d c = λ k views v keeps below at. refused (lift_apart c.args.core.now k views c.args.seat v c.index.result.now keeps below at
    (seat_is c.requires.seat (sym c.index.ensures)) c.args.class ((c.if-not-may_alloc.ensures k views v keeps below at).0 refl)
    c.if-notes-eq0.false c.superblock_of-d.result
    c.superblock_of-d.ensures c.if-notes-d.true)

pub next-requires-clause-from : goal.next-requires-clause-from
next-requires-clause-from c = let r = c.requires.core in let b = among r.keeps c.requires.seat in
    let here = entry_there r.views c.args.seat b in (last_range c.args.core.now r.setup r.views c.args.seat here.0 c.index.result.now r.keeps b
    here.1 (seat_is c.requires.seat (sym c.index.ensures)) c.if-notes-eq0.false).0

pub next-requires-clause-until : goal.next-requires-clause-until
next-requires-clause-until c = let r = c.requires.core in let b = among r.keeps c.requires.seat in
    let here = entry_there r.views c.args.seat b in (last_range c.args.core.now r.setup r.views c.args.seat here.0 c.index.result.now r.keeps b
    here.1 (seat_is c.requires.seat (sym c.index.ensures)) c.if-notes-eq0.false).1

pub returns : goal.returns
returns c = λ k views v keeps below at. lift_behind c.args.core.now k views c.args.seat v c.index.result.now keeps below at
    (seat_is c.requires.seat (sym c.index.ensures)) c.args.class ((c.if-not-may_alloc.ensures k views v keeps below at).0 refl)
    c.if-notes-eq0.false c.if-not-notes.false c.superblock_of-d.result
    c.superblock_of-d.ensures
    (let e = c.if-notes-d.false in omega arith) c.next.result c.next.ensures

pub offset_bounds-notes-class : goal.offset_bounds-notes-class
offset_bounds-notes-class c = let f = (alloc_fits c.args.core.now c.args.seat c.args.class c.index.result.now c.requires.core c.requires.seat
    (seat_is c.requires.seat (sym c.index.ensures)) c.if-not-may_alloc.ensures).last in omega arith

pub bounds-notes-class : goal.bounds-notes-class
bounds-notes-class c = (alloc_fits c.args.core.now c.args.seat c.args.class c.index.result.now c.requires.core c.requires.seat
    (seat_is c.requires.seat (sym c.index.ensures)) c.if-not-may_alloc.ensures).last
