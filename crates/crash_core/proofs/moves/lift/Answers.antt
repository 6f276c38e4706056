use Rattle.std.proofs.Common.{◌≡◌, refl, sym, ◌∙◌, arith}
use Rattle.heap_model.specs.Geometry.{largest_capacity_fits}
use Rattle.seat_state.proofs.WordLemmas.{entry_is, entry_there}
use Rattle.crash_core.proofs.MoveSteps.{alloc_fits, retold}
use Rattle.crash_core.proofs.LiftSteps.{lift, lift_alloc, lift_allocs, batch_short}
use Rattle.crash_core.proofs.moves.lift.Goals as goal
use Rattle.crash_core.proofs.StandingLemmas.{among, seat_is}

pub offset_bounds-notes-class : goal.offset_bounds-notes-class
offset_bounds-notes-class c = let f = (alloc_fits c.args.core.now c.args.seat c.args.class c.index.result.now c.requires.core c.requires.seat
    (seat_is c.requires.seat (sym c.index.ensures)) (lift_allocs c.args.core.now c.args.seat c.args.class c.index.result.now c.requires.seat
    (seat_is c.requires.seat (sym c.index.ensures)) c.requires.may)).last in omega arith

pub bounds-notes-class : goal.bounds-notes-class
bounds-notes-class c = (alloc_fits c.args.core.now c.args.seat c.args.class c.index.result.now c.requires.core c.requires.seat
    (seat_is c.requires.seat (sym c.index.ensures)) (lift_allocs c.args.core.now c.args.seat c.args.class c.index.result.now c.requires.seat
    (seat_is c.requires.seat (sym c.index.ensures)) c.requires.may)).last

pub superblock_of-d-requires : goal.superblock_of-d-requires
superblock_of-d-requires c = let f = (alloc_fits c.args.core.now c.args.seat c.args.class c.index.result.now c.requires.core c.requires.seat
    (seat_is c.requires.seat (sym c.index.ensures)) (lift_allocs c.args.core.now c.args.seat c.args.class c.index.result.now c.requires.seat
    (seat_is c.requires.seat (sym c.index.ensures)) c.requires.may)).from in omega arith

pub next-first-requires-clause-from : goal.next-first-requires-clause-from
next-first-requires-clause-from c = (alloc_fits c.args.core.now c.args.seat c.args.class c.index.result.now c.requires.core c.requires.seat
    (seat_is c.requires.seat (sym c.index.ensures)) (lift_allocs c.args.core.now c.args.seat c.args.class c.index.result.now c.requires.seat
    (seat_is c.requires.seat (sym c.index.ensures)) c.requires.may)).from

pub next-first-requires-clause-until : goal.next-first-requires-clause-until
next-first-requires-clause-until c = (alloc_fits c.args.core.now c.args.seat c.args.class c.index.result.now c.requires.core c.requires.seat
    (seat_is c.requires.seat (sym c.index.ensures)) (lift_allocs c.args.core.now c.args.seat c.args.class c.index.result.now c.requires.seat
    (seat_is c.requires.seat (sym c.index.ensures)) c.requires.may)).until

pub index_mut-requires : goal.index_mut-requires
index_mut-requires c = let l = (alloc_fits c.args.core.now c.args.seat c.args.class c.index.result.now c.requires.core c.requires.seat
    (seat_is c.requires.seat (sym c.index.ensures)) (lift_allocs c.args.core.now c.args.seat c.args.class c.index.result.now c.requires.seat
    (seat_is c.requires.seat (sym c.index.ensures)) c.requires.may)).long in omega arith

pub overflow_sub-caches : goal.overflow_sub-caches
overflow_sub-caches c = (alloc_fits c.args.core.now c.args.seat c.args.class c.index.result.now c.requires.core c.requires.seat
    (seat_is c.requires.seat (sym c.index.ensures)) (lift_allocs c.args.core.now c.args.seat c.args.class c.index.result.now c.requires.seat
    (seat_is c.requires.seat (sym c.index.ensures)) c.requires.may)).count

pub offset_bounds-caches-class : goal.offset_bounds-caches-class
offset_bounds-caches-class c = let f = (alloc_fits c.args.core.now c.args.seat c.args.class c.index.result.now c.requires.core c.requires.seat
    (seat_is c.requires.seat (sym c.index.ensures)) (lift_allocs c.args.core.now c.args.seat c.args.class c.index.result.now c.requires.seat
    (seat_is c.requires.seat (sym c.index.ensures)) c.requires.may)).last in omega arith

pub bounds-caches-class : goal.bounds-caches-class
bounds-caches-class c = (alloc_fits c.args.core.now c.args.seat c.args.class c.index.result.now c.requires.core c.requires.seat
    (seat_is c.requires.seat (sym c.index.ensures)) (lift_allocs c.args.core.now c.args.seat c.args.class c.index.result.now c.requires.seat
    (seat_is c.requires.seat (sym c.index.ensures)) c.requires.may)).last

pub overflow_add-batch : goal.overflow_add-batch
overflow_add-batch c = let r = c.requires.core in let b = among r.keeps c.requires.seat in let here = entry_there r.views c.args.seat b in
    let f = batch_short c.args.core.now r.setup r.views c.args.seat here.0 c.index.result.now r.keeps b here.1
    (seat_is c.requires.seat (sym c.index.ensures)) in let small = c.args.core.now.geometry.small in let fits = largest_capacity_fits in omega arith

pub returns : goal.returns
returns c = λ k views v t keeps below at at_t.
    let same : c.index.result.now ≡ t = c.index.ensures ∙ entry_is c.args.core.now.seats.items c.args.seat c.index.result.now t c.requires.seat
    ∙ at_t.at in
    retold _ _ views c.args.seat c.index.result.now t _ same (lift c.args.core.now k views c.args.seat v c.index.result.now keeps below at
    (seat_is c.requires.seat (sym c.index.ensures)) c.args.class (lift_alloc c.args.core.now k views c.args.seat v c.index.result.now keeps
    below at (seat_is c.requires.seat (sym c.index.ensures)) c.args.class ((c.requires.may k views v keeps below at).0 refl))
    c.next-first.result c.superblock_of-d.result
    c.first_with.result c.next-first.ensures c.superblock_of-d.ensures c.first_with.ensures)
