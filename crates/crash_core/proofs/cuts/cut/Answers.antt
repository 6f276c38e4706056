use Rattle.std.proofs.Common.{◌≡◌, ℕ, ◌<◌, get_or, length, refl, sym, subst, ◌∙◌, arith}
use Rattle.heap_model.specs.Counting.{times}
use Rattle.crash_core.specs.declared.owners.BlockPlace.TheVariants as place
use Rattle.core_model.specs.Effects.{chain}
use Rattle.crash_core.specs.Standing.{HasNewOwner}
use Rattle.crash_core.proofs.ReadLemmas.{lengths}
use Rattle.seat_state.proofs.WordLemmas.{entry_is}
use Rattle.crash_core.proofs.MoveSteps.{retold}
use Rattle.crash_core.proofs.CutSteps.{cut, cut_fits, cut_below}
use Rattle.crash_core.proofs.cuts.cut.Goals as goal
use Rattle.crash_core.proofs.StandingLemmas.{seat_is}

pub info-class-requires-clause-d : goal.info-class-requires-clause-d
info-class-requires-clause-d c = cut_below c.args.core.now c.args.seat c.args.d c.requires.core c.requires.seat c.requires.may

pub start-first-requires : goal.start-first-requires
start-first-requires c = cut_below c.args.core.now c.args.seat c.args.d c.requires.core c.requires.seat c.requires.may

pub overflow_cast-class : goal.overflow_cast-class
overflow_cast-class c = let l = (cut_fits c.args.core.now c.args.seat c.args.d c.index-notes.result.now c.info-class.result c.requires.core
    c.requires.seat (seat_is c.requires.seat (sym c.index-notes.ensures)) c.requires.may c.info-class.ensures).is_class.last in omega arith

pub blocks_of-count-requires : goal.blocks_of-count-requires
blocks_of-count-requires c = (cut_fits c.args.core.now c.args.seat c.args.d c.index-notes.result.now c.info-class.result c.requires.core
    c.requires.seat (seat_is c.requires.seat (sym c.index-notes.ensures)) c.requires.may c.info-class.ensures).is_class

pub give_chain-requires : goal.give_chain-requires
give_chain-requires c = subst (λ ws. (b : ℕ) → 0 < times b (chain (λ n. get_or ws n 0) c.start-first.result c.blocks_of-count.result)
    → (b < length c.args.core.now.blocks.items) × (b < length ws)) (sym c.deref.ensures.value)
    ((cut_fits c.args.core.now c.args.seat c.args.d c.index-notes.result.now c.info-class.result c.requires.core c.requires.seat
    (seat_is c.requires.seat (sym c.index-notes.ensures)) c.requires.may c.info-class.ensures).inside c.start-first.result
    c.blocks_of-count.result c.start-first.ensures c.blocks_of-count.ensures)

pub index_mut-requires : goal.index_mut-requires
index_mut-requires c = let b = cut_below c.args.core.now c.args.seat c.args.d c.requires.core c.requires.seat c.requires.may in
    let l = (lengths c.args.core.now c.requires.core).superblocks in omega arith

pub offset_bounds-caches-class : goal.offset_bounds-caches-class
offset_bounds-caches-class c = let l = (cut_fits c.args.core.now c.args.seat c.args.d c.index-notes.result.now c.info-class.result
    c.requires.core c.requires.seat (seat_is c.requires.seat (sym c.index-notes.ensures)) c.requires.may c.info-class.ensures).is_class.last in
    omega arith

pub bounds-caches-class : goal.bounds-caches-class
bounds-caches-class c = let l = (cut_fits c.args.core.now c.args.seat c.args.d c.index-notes.result.now c.info-class.result c.requires.core
    c.requires.seat (seat_is c.requires.seat (sym c.index-notes.ensures)) c.requires.may c.info-class.ensures).is_class.last in omega arith

pub returns : goal.returns
returns c = λ k views v t keeps below at at_t.
    let same : c.index-notes.result.now ≡ t = c.index-notes.ensures
    ∙ entry_is c.args.core.now.seats.items c.args.seat c.index-notes.result.now t c.requires.seat ∙ at_t.at in
    retold _ _ views c.args.seat c.index-notes.result.now t _ same
    (cut c.args.core.now k views c.args.seat v c.index-notes.result.now keeps below at
    (seat_is c.requires.seat (sym c.index-notes.ensures)) c.args.d c.info-class.result c.info-class.ensures
    ((c.requires.may k views v keeps below at).0 refl) c.start-first.result c.blocks_of-count.result c.start-first.ensures
    c.blocks_of-count.ensures c.give_chain.new.owners
    (subst (λ ws. HasNewOwner c.args.core.now.blocks.items c.give_chain.new.owners.items
    (chain (λ n. get_or ws n 0) c.start-first.result c.blocks_of-count.result) (record { seat = c.args.seat; place = place.Cached }))
    c.deref.ensures.value c.give_chain.ensures)
    c.cleared.result c.cleared.ensures)
