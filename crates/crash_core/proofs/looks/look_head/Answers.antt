use Rattle.std.proofs.Common.{sym, arith}
use Rattle.crash_core.proofs.StandingLemmas.{step_not, seat_is}
use Rattle.crash_core.proofs.LookSteps.{look_head}
use Rattle.crash_core.proofs.looks.look_head.Goals as goal

pub returns-then-list-ge-LISTS : goal.returns-then-list-ge-LISTS
returns-then-list-ge-LISTS c = λ k views v keeps below at going ticket. step_not c.args.core.now k views c.args.seat v _ (λ is_list _. omega arith)

pub returns : goal.returns
returns c = λ k views v keeps below at going ticket.
    look_head c.args.core.now k views c.args.seat v c.index-notes.result.now keeps below at
    (seat_is c.requires.seat (sym c.index-notes.ensures)) going ticket c.args.list c.index-word.result.now (omega arith) c.index-word.ensures
