use Rattle.std.proofs.Common.{sym, arith}
use Rattle.crash_core.proofs.MoveSteps.{may_alloc}
use Rattle.crash_core.proofs.StandingLemmas.{seat_is}
use Rattle.crash_core.proofs.moves.may_alloc.Goals as goal

pub returns : goal.returns
returns c = λ k views v keeps below at. may_alloc c.args.core.now k views c.args.seat v c.index.result.now keeps below at
    (seat_is c.requires.seat (sym c.index.ensures)) c.args.class c.if-class-eq0.false (let e = c.if-class-gt-LAST_CLASS.false in omega arith)
