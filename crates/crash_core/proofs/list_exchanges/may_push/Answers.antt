use Rattle.std.proofs.Common.{◌+◌, ◌<◌, sym, ap, subst, ◌∙◌, arith}
use Rattle.seat_state.specs.Superblocks.{raw_in, split_in, classed_in}
use Rattle.crash_core.proofs.KeptFacts.{unseen_head}
use Rattle.seat_state.proofs.DecisionLemmas.{refused}
use Rattle.crash_core.proofs.PushDecision.{not_freely, beyond, undurable, unlinked, as_free_one, unclassed, full_one, of_class_one}
use Rattle.crash_core.proofs.StandingLemmas.{seat_is}
use Rattle.crash_core.proofs.list_exchanges.may_push.Goals as goal

pub returns-in_default-clause-decides : goal.returns-in_default-clause-decides
returns-in_default-clause-decides c = λ k views v keeps below at. refused
    (λ may. unseen_head c.args.core.now k views c.args.seat v c.index.result.now keeps below at
    (seat_is c.requires.seat (sym c.index.ensures)) c.in_default.is may.is_seen)

pub returns-then-d-capacity-clause-decides : goal.returns-then-d-capacity-clause-decides
returns-then-d-capacity-clause-decides c = λ k views v keeps below at. refused
    (beyond c.args.core.now k views c.args.seat v c.index.result.now keeps below at (seat_is c.requires.seat (sym c.index.ensures)) c.args.d
    (let e = c.capacity.ensures in let f = c.if-d-capacity.true in omega arith))

pub returns-then-not-is_freely_claimed-clause-decides : goal.returns-then-not-is_freely_claimed-clause-decides
returns-then-not-is_freely_claimed-clause-decides c = λ k views v keeps below at. refused
    (not_freely c.args.core.now k views c.args.seat v c.index.result.now keeps below at
    (seat_is c.requires.seat (sym c.index.ensures)) c.args.d c.usage-usage.result c.usage-usage.ensures (sym c.if-not-is_freely_claimed.ensures))

pub returns-then-d-durable_used-clause-decides : goal.returns-then-d-durable_used-clause-decides
returns-then-d-durable_used-clause-decides c = λ k views v keeps below at. refused
    (undurable c.args.core.now k views c.args.seat v c.index.result.now keeps below at
    (seat_is c.requires.seat (sym c.index.ensures)) c.args.d c.durable_used.result c.durable_used.ensures (let e = c.if-d-durable_used.true in
    omega arith))

pub returns-then-link-head_first-clause-decides : goal.returns-then-link-head_first-clause-decides
returns-then-link-head_first-clause-decides c = λ k views v keeps below at. refused
    (unlinked c.args.core.now k views c.args.seat v c.index.result.now keeps below at
    (seat_is c.requires.seat (sym c.index.ensures)) c.args.d c.in-Some.head c.in-Some.is c.link.result c.head_first.result c.link.ensures
    c.head_first.ensures c.if-link-head_first.true)

pub returns-then-head-eq0-clause-decides : goal.returns-then-head-eq0-clause-decides
returns-then-head-eq0-clause-decides c = λ k views v keeps below at.
    as_free_one c.args.core.now k views c.args.seat v c.index.result.now keeps below at
    (seat_is c.requires.seat (sym c.index.ensures)) c.args.d c.in-Some.head c.in-Some.is
    (subst (λ x. 0 < raw_in x + split_in x + classed_in x) c.usage-usage.ensures (let e = c.if-not-is_freely_claimed.ensures in
    omega arith)) c.durable_used.result c.durable_used.ensures (let e = c.if-d-durable_used.false in
    omega arith) c.link.result c.head_first.result c.link.ensures c.head_first.ensures (let e = c.if-link-head_first.false in
    omega arith) c.anchor_state-state.result c.anchor.result c.anchor_state-state.ensures c.anchor.ensures (let e = c.if-head-eq0.true in
    omega arith)

pub returns-then-not-is_classed-clause-decides : goal.returns-then-not-is_classed-clause-decides
returns-then-not-is_classed-clause-decides c = λ k views v keeps below at.
    refused (unclassed c.args.core.now k views c.args.seat v c.index.result.now keeps below at
    (seat_is c.requires.seat (sym c.index.ensures)) c.args.d c.in-Some.head c.in-Some.is
    (subst (λ x. 0 < raw_in x + split_in x + classed_in x) c.usage-usage.ensures (let e = c.if-not-is_freely_claimed.ensures in
    omega arith)) c.durable_used.result c.durable_used.ensures (let e = c.if-d-durable_used.false in
    omega arith) c.link.result c.head_first.result c.link.ensures c.head_first.ensures (let e = c.if-link-head_first.false in
    omega arith) c.anchor_state-state.result c.anchor.result c.anchor_state-state.ensures c.anchor.ensures c.if-head-eq0.false
    (ap classed_in (sym c.usage-usage.ensures) ∙ sym c.if-not-is_classed.ensures))

pub returns-then-state-gt-PARTIAL-clause-decides : goal.returns-then-state-gt-PARTIAL-clause-decides
returns-then-state-gt-PARTIAL-clause-decides c = λ k views v keeps below at.
    refused (full_one c.args.core.now k views c.args.seat v c.index.result.now keeps below at
    (seat_is c.requires.seat (sym c.index.ensures)) c.args.d c.in-Some.head c.in-Some.is
    (subst (λ x. 0 < raw_in x + split_in x + classed_in x) c.usage-usage.ensures (let e = c.if-not-is_freely_claimed.ensures in
    omega arith)) c.durable_used.result c.durable_used.ensures (let e = c.if-d-durable_used.false in
    omega arith) c.link.result c.head_first.result c.link.ensures c.head_first.ensures (let e = c.if-link-head_first.false in
    omega arith) c.anchor_state-state.result c.anchor.result c.anchor_state-state.ensures c.anchor.ensures c.if-head-eq0.false
    (let e = c.if-state-gt-PARTIAL.true in omega arith))

pub returns-clause-decides : goal.returns-clause-decides
returns-clause-decides c = λ k views v keeps below at.
    of_class_one c.args.core.now k views c.args.seat v c.index.result.now keeps below at
    (seat_is c.requires.seat (sym c.index.ensures)) c.args.d c.in-Some.head c.in-Some.is
    (subst (λ x. 0 < raw_in x + split_in x + classed_in x) c.usage-usage.ensures (let e = c.if-not-is_freely_claimed.ensures in
    omega arith)) c.durable_used.result c.durable_used.ensures (let e = c.if-d-durable_used.false in
    omega arith) c.link.result c.head_first.result c.link.ensures c.head_first.ensures (let e = c.if-link-head_first.false in
    omega arith) c.anchor_state-state.result c.anchor.result c.anchor_state-state.ensures c.anchor.ensures c.if-head-eq0.false
    (subst (λ x. 0 < classed_in x) c.usage-usage.ensures (let e = c.if-not-is_classed.ensures in omega arith))
    (let e = c.if-state-gt-PARTIAL.false in omega arith) c.info.result c.info.ensures
