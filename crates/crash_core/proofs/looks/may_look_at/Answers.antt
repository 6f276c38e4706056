use Rattle.std.proofs.Common.{◌+◌, ◌<◌, refl, ap, sym, subst, ◌∙◌, arith}
use Rattle.seat_state.specs.Superblocks.{raw_in, split_in, classed_in}
use Rattle.seat_state.proofs.DecisionLemmas.{refused}
use Rattle.crash_core.proofs.LookDecision.{anchor_beyond, anchor_freely, anchor_unbatched, anchor_batched}
use Rattle.crash_core.proofs.StandingLemmas.{seat_is}
use Rattle.crash_core.proofs.looks.may_look_at.Goals as goal

pub returns-then-d-capacity-clause-decides : goal.returns-then-d-capacity-clause-decides
returns-then-d-capacity-clause-decides c = λ k views v keeps below at. refused
    (anchor_beyond c.args.core.now k views c.args.seat v c.index.result.now keeps below at
    (seat_is c.requires.seat (sym c.index.ensures)) c.args.d (let e = c.capacity.ensures in let f = c.if-d-capacity.true in omega arith))

pub returns-then-is_freely_claimed-clause-decides : goal.returns-then-is_freely_claimed-clause-decides
returns-then-is_freely_claimed-clause-decides c = λ k views v keeps below at. (
  λ e. anchor_freely c.args.core.now k views c.args.seat v c.index.result.now keeps below at
      (seat_is c.requires.seat (sym c.index.ensures)) c.args.d (subst (λ x. 0 < raw_in x + split_in x + classed_in x) c.usage.ensures
      (let e = c.if-is_freely_claimed.ensures in omega arith)),
  λ may. refl,
)

pub returns-then-batch-eq0-clause-decides : goal.returns-then-batch-eq0-clause-decides
returns-then-batch-eq0-clause-decides c = λ k views v keeps below at.
    refused (anchor_unbatched c.args.core.now k views c.args.seat v c.index.result.now keeps below at
    (seat_is c.requires.seat (sym c.index.ensures)) c.args.d (ap (λ x. raw_in x + split_in x + classed_in x) (sym c.usage.ensures)
    ∙ sym c.if-is_freely_claimed.ensures) c.if-batch-eq0.true)

pub returns-clause-decides : goal.returns-clause-decides
returns-clause-decides c = λ k views v keeps below at.
    anchor_batched c.args.core.now k views c.args.seat v c.index.result.now keeps below at
    (seat_is c.requires.seat (sym c.index.ensures)) c.args.d (ap (λ x. raw_in x + split_in x + classed_in x) (sym c.usage.ensures)
    ∙ sym c.if-is_freely_claimed.ensures) c.if-batch-eq0.false
