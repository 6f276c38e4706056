use Rattle.std.proofs.Common.{◌≡◌, ◌∙◌, refl, sym, arith}
use Rattle.seat_state.proofs.WordLemmas.{entry_is}
use Rattle.crash_core.proofs.MoveSteps.{retold}
use Rattle.crash_core.proofs.LargeSteps.{hold_large, large_all_fits}
use Rattle.crash_core.proofs.spans.hold_large.Goals as goal
use Rattle.crash_core.proofs.StandingLemmas.{seat_is}

pub give_range-requires : goal.give_range-requires
give_range-requires c = (large_all_fits c.args.core.now c.args.seat c.args.d c.args.n c.index-notes.result.now c.requires.core c.requires.seat
    (seat_is c.requires.seat (sym c.index-notes.ensures)) c.requires.may).1

pub index_mut-requires : goal.index_mut-requires
index_mut-requires c = let f = (large_all_fits c.args.core.now c.args.seat c.args.d c.args.n c.index-notes.result.now c.requires.core
    c.requires.seat (seat_is c.requires.seat (sym c.index-notes.ensures)) c.requires.may) in let a = f.0 in let b = f.1 in
    let l = c.give_range.ensures.long in omega arith

pub returns : goal.returns
returns c = λ k views v t keeps below at at_t.
    let same : c.index-notes.result.now ≡ t = c.index-notes.ensures
    ∙ entry_is c.args.core.now.seats.items c.args.seat c.index-notes.result.now t c.requires.seat ∙ at_t.at in
    retold _ _ views c.args.seat c.index-notes.result.now t _ same
    (hold_large c.args.core.now k views c.args.seat v c.index-notes.result.now keeps below at
    (seat_is c.requires.seat (sym c.index-notes.ensures)) c.args.d c.args.n
    ((c.requires.may k views v keeps below at).0 refl) c.give_range.new.owners c.cleared.result c.give_range.ensures c.cleared.ensures)
