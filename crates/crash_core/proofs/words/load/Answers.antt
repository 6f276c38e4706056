use Rattle.std.proofs.Common.{refl, sym, true≢false}
use Rattle.core_model.specs.declared.event.Event.TheVariants.{Load}
use Rattle.crash_core.proofs.StandingLemmas.{step_not, seat_is}
use Rattle.crash_core.proofs.WordSteps.{load}
use Rattle.crash_core.proofs.words.load.Goals as goal

pub returns-then-not-is_own : goal.returns-then-not-is_own
returns-then-not-is_own c = λ k views v keeps below at going ticket. step_not c.args.core.now k views c.args.seat v (Load c.args.word)
    (λ may seen. true≢false (sym ((c.if-not-is_own.ensures k views v keeps below at).1 may)))

pub returns : goal.returns
returns c = λ k views v keeps below at going ticket. load c.args.core.now k views c.args.seat v c.index-notes.result.now keeps below at
    (seat_is c.requires.seat (sym c.index-notes.ensures)) going ticket c.args.word ((c.if-not-is_own.ensures k views v keeps below at).0 refl)
