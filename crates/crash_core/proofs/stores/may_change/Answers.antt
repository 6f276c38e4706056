use Rattle.std.proofs.Common.{◌+◌, refl, ap, sym, ◌∙◌}
use Rattle.crash_core.specs.Standing.{cached_in, batched_in}
use Rattle.seat_state.proofs.DecisionLemmas.{refused}
use Rattle.crash_core.proofs.StoreDecision.{change_free, change_cached, change_batched}
use Rattle.crash_core.proofs.StandingLemmas.{seat_is}
use Rattle.crash_core.proofs.stores.may_change.Goals as goal

pub returns-in-Nowhere : goal.returns-in-Nowhere
returns-in-Nowhere c = λ k views v keeps below at. (
  λ e. change_free c.args.core.now k views c.args.seat v c.index.result.now keeps below at
      (seat_is c.requires.seat (sym c.index.ensures)) c.args.word c.place.result c.place.ensures
      (ap (λ p. cached_in p + batched_in p) c.in-Nowhere.is),
  λ may. refl,
)

pub returns-in-Held : goal.returns-in-Held
returns-in-Held c = λ k views v keeps below at. (
  λ e. change_free c.args.core.now k views c.args.seat v c.index.result.now keeps below at
      (seat_is c.requires.seat (sym c.index.ensures)) c.args.word c.place.result c.place.ensures
      (ap (λ p. cached_in p + batched_in p) c.in-Held.is),
  λ may. refl,
)

pub returns-in-Cached : goal.returns-in-Cached
returns-in-Cached c = λ k views v keeps below at. refused (change_cached c.args.core.now k views c.args.seat v c.index.result.now keeps below at
    (seat_is c.requires.seat (sym c.index.ensures)) c.args.word (sym c.in-Cached.is ∙ c.place.ensures))

pub returns-in-Batched : goal.returns-in-Batched
returns-in-Batched c = λ k views v keeps below at. change_batched c.args.core.now k views c.args.seat v c.index.result.now keeps below at
    (seat_is c.requires.seat (sym c.index.ensures)) c.args.word (sym c.in-Batched.is ∙ c.place.ensures)
