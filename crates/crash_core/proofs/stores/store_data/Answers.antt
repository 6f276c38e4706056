use Rattle.std.proofs.Common.{refl, sym, true≢false}
use Rattle.core_model.specs.Cells.{data_cell}
use Rattle.crash_core.proofs.StoreSteps.{data_stored, not_stored}
use Rattle.crash_core.proofs.stores.store_data.Goals as goal
use Rattle.crash_core.proofs.StandingLemmas.{seat_is}

pub returns-then-not-may_change : goal.returns-then-not-may_change
returns-then-not-may_change c = λ k views v keeps below at going ticket. not_stored c.args.core.now k views c.args.seat v
    c.index-notes.result.now keeps below at (seat_is c.requires.seat (sym c.index-notes.ensures)) going c.args.word c.args.value
    (data_cell c.args.word) c.requires.part.0
    (λ may. true≢false (sym ((c.if-not-may_change.ensures k views v keeps below at).1 may)))

pub returns : goal.returns
returns c = λ k views v keeps below at going ticket. data_stored c.args.core.now k views c.args.seat v c.index-notes.result.now keeps below at
    (seat_is c.requires.seat (sym c.index-notes.ensures)) going c.args.word c.args.value c.stored.result c.requires.part.0 ticket
    ((c.requires.own k views v keeps below at).0 refl)
    ((c.if-not-may_change.ensures k views v keeps below at).0 refl) c.stored.ensures
