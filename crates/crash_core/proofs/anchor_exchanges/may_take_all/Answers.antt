use Rattle.std.proofs.Common.{◌<◌, ap, sym, subst, ◌∙◌, arith}
use Rattle.seat_state.specs.Superblocks.{classed_in}
use Rattle.crash_core.proofs.KeptFacts.{unseen_anchor}
use Rattle.seat_state.proofs.DecisionLemmas.{refused}
use Rattle.crash_core.proofs.TakeAllSteps.{take_beyond, take_unclaimed, take_other, take_not_partial, take_decided, class_below}
use Rattle.crash_core.proofs.StandingLemmas.{seat_is}
use Rattle.crash_core.proofs.anchor_exchanges.may_take_all.Goals as goal

pub returns-in_default-clause-decides : goal.returns-in_default-clause-decides
returns-in_default-clause-decides c = λ k views v keeps below at. refused
    (λ may. unseen_anchor c.args.core.now k views c.args.seat v c.index.result.now keeps below at
    (seat_is c.requires.seat (sym c.index.ensures)) c.in_default.is may.is_seen)

pub returns-then-d-capacity-clause-decides : goal.returns-then-d-capacity-clause-decides
returns-then-d-capacity-clause-decides c = λ k views v keeps below at. refused
    (take_beyond c.args.core.now k views c.args.seat v c.index.result.now keeps below at
    (seat_is c.requires.seat (sym c.index.ensures)) c.args.d (let e = c.capacity.ensures in let f = c.if-d-capacity.true in omega arith))

pub returns-then-seen-d-clause-decides : goal.returns-then-seen-d-clause-decides
returns-then-seen-d-clause-decides c = λ k views v keeps below at. refused
    (take_other c.args.core.now k views c.args.seat v c.index.result.now keeps below at
    (seat_is c.requires.seat (sym c.index.ensures)) c.args.d c.in-Some.seen c.in-Some.is c.if-seen-d.true)

pub returns-then-anchor_state-ne-PARTIAL-clause-decides : goal.returns-then-anchor_state-ne-PARTIAL-clause-decides
returns-then-anchor_state-ne-PARTIAL-clause-decides c = λ k views v keeps below at. refused
    (take_not_partial c.args.core.now k views c.args.seat v c.index.result.now keeps below at
    (seat_is c.requires.seat (sym c.index.ensures)) c.args.d c.in-Some.seen c.in-Some.is
    (λ e. c.if-anchor_state-ne-PARTIAL.true (c.anchor_state.ensures ∙ e)))

pub returns-then-not-is_classed-clause-decides : goal.returns-then-not-is_classed-clause-decides
returns-then-not-is_classed-clause-decides c = λ k views v keeps below at. refused
    (take_unclaimed c.args.core.now k views c.args.seat v c.index.result.now keeps below at
    (seat_is c.requires.seat (sym c.index.ensures)) c.args.d (ap classed_in (sym c.usage.ensures) ∙ sym c.if-not-is_classed.ensures))

pub offset_bounds-notes-info : goal.offset_bounds-notes-info
offset_bounds-notes-info c = let b = class_below c.args.core.now c.args.seat c.args.d c.index.result.now c.info.result c.requires.core
    c.requires.seat (seat_is c.requires.seat (sym c.index.ensures))
    (subst (λ x. 0 < classed_in x) c.usage.ensures (let e = c.if-not-is_classed.ensures in omega arith)) c.info.ensures in omega arith

pub bounds-notes-info : goal.bounds-notes-info
bounds-notes-info c = class_below c.args.core.now c.args.seat c.args.d c.index.result.now c.info.result c.requires.core c.requires.seat
    (seat_is c.requires.seat (sym c.index.ensures)) (subst (λ x. 0 < classed_in x) c.usage.ensures (let e = c.if-not-is_classed.ensures in
    omega arith)) c.info.ensures

pub returns-clause-decides : goal.returns-clause-decides
returns-clause-decides c = λ k views v keeps below at. take_decided c.args.core.now k views c.args.seat v c.index.result.now keeps below at
    (seat_is c.requires.seat (sym c.index.ensures)) c.args.d c.in-Some.seen c.in-Some.is (let e = c.if-seen-d.false in omega arith)
    (sym c.anchor_state.ensures ∙ (let e = c.if-anchor_state-ne-PARTIAL.false in omega arith))
    (subst (λ x. 0 < classed_in x) c.usage.ensures (let e = c.if-not-is_classed.ensures in omega arith)) c.info.result c.info.ensures
