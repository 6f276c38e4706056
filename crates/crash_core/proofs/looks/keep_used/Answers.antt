use Rattle.std.proofs.Common.{◌+◌, sym, arith}
use Rattle.crash_core.proofs.LookSteps.{no_keep, keep_used}
use Rattle.crash_core.proofs.looks.keep_used.Goals as goal
use Rattle.crash_core.proofs.StandingLemmas.{seat_is}

pub returns-in_default : goal.returns-in_default
returns-in_default c = λ k views v keeps below at going ticket.
    no_keep c.args.core.now k views c.args.seat v c.index-notes.result.now keeps below at
    (seat_is c.requires.seat (sym c.index-notes.ensures)) going c.in_default.is

pub returns : goal.returns
returns c = λ k views v keeps below at going ticket. let f = c.length.ensures in let g = c.max.ensures in
    keep_used c.args.core.now k views c.args.seat v c.index-notes.result.now keeps below at
    (seat_is c.requires.seat (sym c.index-notes.ensures)) going ticket c.in-Some.used c.index.result.now (c.length.result + 8) c.max.result
    c.in-Some.is (let cap = keeps.capacity in omega arith) c.index.ensures g
