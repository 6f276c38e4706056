use Rattle.std.proofs.Common.{refl, sym, true≢false, arith}
use Rattle.core_model.specs.Cells.{anchor_cell}
use Rattle.crash_core.proofs.ReadLemmas.{lengths}
use Rattle.crash_core.proofs.StoreSteps.{anchor_stored, not_stored}
use Rattle.crash_core.proofs.stores.store_anchor.Goals as goal
use Rattle.crash_core.proofs.StandingLemmas.{seat_is}

pub returns-then-not-may_anchor : goal.returns-then-not-may_anchor
returns-then-not-may_anchor c = λ k views v keeps below at going ticket. not_stored c.args.core.now k views c.args.seat v
    c.index-notes.result.now keeps below at (seat_is c.requires.seat (sym c.index-notes.ensures)) going c.args.word c.args.value
    (anchor_cell c.args.d) c.requires.part.0
    (λ may. true≢false (sym ((c.if-not-may_anchor.ensures k views v keeps below at).1 may)))

pub index_mut-requires-2 : goal.index_mut-requires-2
index_mut-requires-2 c = let l = (lengths c.args.core.now c.requires.core).superblocks in let p = c.requires.part.1 in omega arith

pub returns : goal.returns
returns c = λ k views v keeps below at going ticket. anchor_stored c.args.core.now k views c.args.seat v c.index-notes.result.now keeps below at
    (seat_is c.requires.seat (sym c.index-notes.ensures)) going c.args.word c.args.value c.args.d c.anchored.result c.requires.part.0
    c.requires.part.1 ticket ((c.requires.own k views v keeps below at).0 refl)
    ((c.if-not-may_anchor.ensures k views v keeps below at).0 refl) c.anchored.ensures
