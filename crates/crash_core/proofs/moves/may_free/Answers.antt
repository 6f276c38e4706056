use Rattle.std.proofs.Common.{◌<◌, refl, ap, sym, subst, ◌∙◌, arith}
use Rattle.crash_core.specs.Standing.{held_in}
use Rattle.seat_state.proofs.DecisionLemmas.{refused}
use Rattle.seat_state.proofs.WordLemmas.{entry_there}
use Rattle.crash_core.proofs.FreeSteps.{not_held, free_alone, free_linked}
use Rattle.crash_core.proofs.StandingLemmas.{seat_is}
use Rattle.crash_core.proofs.moves.may_free.Goals as goal

pub returns-then-not-is_held-clause-decides : goal.returns-then-not-is_held-clause-decides
returns-then-not-is_held-clause-decides c = λ k views v keeps below at. refused
    (not_held c.args.core.now k views c.args.seat v (entry_there c.args.core.now.seats.items c.args.seat c.requires.seat).0 keeps below at
    (seat_is c.requires.seat (entry_there c.args.core.now.seats.items c.args.seat c.requires.seat).1) c.args.block
    (ap held_in (sym c.place.ensures) ∙ sym c.if-not-is_held.ensures))

pub returns-then-cache-eq0-clause-decides : goal.returns-then-cache-eq0-clause-decides
returns-then-cache-eq0-clause-decides c = λ k views v keeps below at. (
  λ e. free_alone c.args.core.now k views c.args.seat v c.index.result.now keeps below at
      (seat_is c.requires.seat (sym c.index.ensures)) c.args.block (subst (λ p. 0 < held_in p) c.place.ensures
      (let e = c.if-not-is_held.ensures in omega arith)) c.held_class-class.result c.held_class-class.ensures.class c.if-cache-eq0.true,
  λ may. refl,
)

pub returns-clause-decides : goal.returns-clause-decides
returns-clause-decides c = λ k views v keeps below at. free_linked c.args.core.now k views c.args.seat v c.index.result.now keeps below at
    (seat_is c.requires.seat (sym c.index.ensures)) c.args.block (subst (λ p. 0 < held_in p) c.place.ensures
    (let e = c.if-not-is_held.ensures in omega arith)) c.held_class-class.result c.held_class-class.ensures.class c.if-cache-eq0.false
    c.next.result c.next.ensures
