use Rattle.std.proofs.Common.{refl, sym}
use Rattle.core_model.specs.Cells.{cell_at}
use Rattle.crash_core.proofs.StoreSteps.{plain}
use Rattle.crash_core.proofs.stores.store_plain.Goals as goal
use Rattle.crash_core.proofs.StandingLemmas.{seat_is}

pub returns : goal.returns
returns c = λ k views v keeps below at going ticket. plain c.args.core.now k views c.args.seat v c.index-notes.result.now keeps below at
    (seat_is c.requires.seat (sym c.index-notes.ensures)) going c.args.word c.args.value
    (cell_at c.args.core.now.geometry.capacity c.args.word) refl ticket ((c.requires.own k views v keeps below at).0 refl) c.requires.part
