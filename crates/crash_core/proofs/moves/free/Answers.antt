use Rattle.std.proofs.Common.{◌≡◌, sym, ◌∙◌, arith}
use Rattle.heap_model.specs.Geometry.{largest_capacity_fits}
use Rattle.seat_state.proofs.WordLemmas.{entry_is, entry_there}
use Rattle.crash_core.proofs.MoveSteps.{retold}
use Rattle.crash_core.proofs.FreeSteps.{free, count_short}
use Rattle.crash_core.proofs.moves.free.Goals as goal
use Rattle.crash_core.proofs.StandingLemmas.{among, seat_is}

pub overflow_add-caches : goal.overflow_add-caches
overflow_add-caches c = let r = c.requires.core in let b = among r.keeps c.requires.seat in let here = entry_there r.views c.args.seat b in
    let f = count_short c.args.core.now r.setup r.views c.args.seat here.0 c.index.result.now r.keeps b here.1
    (seat_is c.requires.seat (sym c.index.ensures)) c.args.block c.requires.held c.held_class-class.result c.held_class-class.ensures.class in
    let small = c.args.core.now.geometry.small in let fits = largest_capacity_fits in omega arith

pub returns : goal.returns
returns c = λ k views v t keeps below at at_t.
    let same : c.index.result.now ≡ t = c.index.ensures ∙ entry_is c.args.core.now.seats.items c.args.seat c.index.result.now t c.requires.seat
    ∙ at_t.at in
    retold _ _ views c.args.seat c.index.result.now t _ same (free c.args.core.now k views c.args.seat v c.index.result.now keeps below at
    (seat_is c.requires.seat (sym c.index.ensures)) c.args.block c.requires.held c.held_class-class.result c.held_class-class.ensures.class)
