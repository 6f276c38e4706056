use Rattle.std.proofs.Common.{sym, true≢false}
use Rattle.core_model.specs.declared.event.Event.TheVariants.{Store}
use Rattle.crash_core.proofs.StandingLemmas.{step_not, seat_is}
use Rattle.seat_state.proofs.WordLemmas.{entry_there}
use Rattle.crash_core.proofs.StoreSteps.{shared}
use Rattle.crash_core.proofs.stores.store.Goals as goal

pub returns-then-not-is_own : goal.returns-then-not-is_own
returns-then-not-is_own c = λ k views v keeps below at going ticket. step_not c.args.core.now k views c.args.seat v (Store c.args.word c.args.value)
    (λ may seen. true≢false (sym ((c.if-not-is_own.ensures k views v keeps below at).1 may.0)))

pub returns-in-Shared : goal.returns-in-Shared
returns-in-Shared c = λ k views v keeps below at going ticket. shared c.args.core.now k views c.args.seat v
    (entry_there c.args.core.now.seats.items c.args.seat c.requires.seat).0 keeps below at
    (seat_is c.requires.seat (entry_there c.args.core.now.seats.items c.args.seat c.requires.seat).1) going c.args.word c.args.value c.in-Shared.ensures
