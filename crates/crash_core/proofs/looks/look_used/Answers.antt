use Rattle.std.proofs.Common.{sym}
use Rattle.crash_core.proofs.LookSteps.{look_used}
use Rattle.crash_core.proofs.looks.look_used.Goals as goal
use Rattle.crash_core.proofs.StandingLemmas.{seat_is}

pub returns : goal.returns
returns c = λ k views v keeps below at going ticket.
    look_used c.args.core.now k views c.args.seat v c.index-notes.result.now keeps below at
    (seat_is c.requires.seat (sym c.index-notes.ensures)) going ticket c.index-word.result.now c.index-word.ensures
