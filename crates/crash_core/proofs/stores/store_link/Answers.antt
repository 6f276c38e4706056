use Rattle.std.proofs.Common.{refl, sym, arith}
use Rattle.crash_core.proofs.StoreSteps.{link, no_link}
use Rattle.crash_core.proofs.stores.store_link.Goals as goal
use Rattle.crash_core.proofs.StandingLemmas.{seat_is}

pub returns-then-is_cutting : goal.returns-then-is_cutting
returns-then-is_cutting c = λ k views v keeps below at going ticket. no_link c.args.core.now k views c.args.seat v c.index-notes.result.now
    keeps below at (seat_is c.requires.seat (sym c.index-notes.ensures))
    going c.args.word c.args.value c.args.d c.requires.part.0 c.usage.result c.usage.ensures (let e = c.if-is_cutting.ensures in omega arith)

pub returns : goal.returns
returns c = λ k views v keeps below at going ticket. link c.args.core.now k views c.args.seat v c.index-notes.result.now keeps below at
    (seat_is c.requires.seat (sym c.index-notes.ensures)) going c.args.word c.args.value c.args.d c.requires.part.0 ticket
    ((c.requires.own k views v keeps below at).0 refl) c.usage.result c.usage.ensures (sym c.if-is_cutting.ensures)
