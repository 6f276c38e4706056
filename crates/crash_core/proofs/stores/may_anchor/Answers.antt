use Rattle.std.proofs.Common.{◌+◌, refl, ap, sym, ◌∙◌, arith}
use Rattle.seat_state.specs.Superblocks.{cutting_in, split_in}
use Rattle.seat_state.proofs.WordLemmas.{entry_there}
use Rattle.seat_state.proofs.DecisionLemmas.{refused}
use Rattle.crash_core.proofs.StoreDecision.{no_anchor, cutting_anchor, split_anchor, other_anchor}
use Rattle.core_model.specs.Guards.{as_empty}
use Rattle.crash_core.proofs.StandingLemmas.{seat_is}
use Rattle.crash_core.proofs.stores.may_anchor.Goals as goal

pub returns-then-value-eq0 : goal.returns-then-value-eq0
returns-then-value-eq0 c = λ k views v keeps below at. (λ e. as_empty c.args.value c.if-value-eq0.true, λ may. refl)

pub returns-then-value-anchor_after_take_all : goal.returns-then-value-anchor_after_take_all
returns-then-value-anchor_after_take_all c = λ k views v keeps below at. refused
    (no_anchor c.args.core.now k views c.args.seat v (entry_there c.args.core.now.seats.items c.args.seat c.requires.seat).0 keeps below at
    (seat_is c.requires.seat (entry_there c.args.core.now.seats.items c.args.seat c.requires.seat).1) c.args.d c.args.value c.if-value-eq0.false
    (λ e. c.if-value-anchor_after_take_all.true (e ∙ sym c.anchor_after_take_all.ensures)))

pub returns-in-Cutting : goal.returns-in-Cutting
returns-in-Cutting c = λ k views v keeps below at. refused (cutting_anchor c.args.core.now k views c.args.seat v
    (entry_there c.args.core.now.seats.items c.args.seat c.requires.seat).0 keeps below at
    (seat_is c.requires.seat (entry_there c.args.core.now.seats.items c.args.seat c.requires.seat).1) c.args.d c.args.value c.if-value-eq0.false
    (sym c.in-Cutting.is ∙ c.usage.ensures))

pub returns-in-Split : goal.returns-in-Split
returns-in-Split c = λ k views v keeps below at. (
  λ e. split_anchor c.args.core.now k views c.args.seat v
      (entry_there c.args.core.now.seats.items c.args.seat c.requires.seat).0 keeps below at
      (seat_is c.requires.seat (entry_there c.args.core.now.seats.items c.args.seat c.requires.seat).1) c.args.d c.args.value
      (let e = c.if-value-anchor_after_take_all.false in let f = c.anchor_after_take_all.ensures in
      omega arith) (sym c.in-Split.is ∙ c.usage.ensures),
  λ may. refl,
)

pub returns-in-Nothing : goal.returns-in-Nothing
returns-in-Nothing c = λ k views v keeps below at. other_anchor c.args.core.now k views c.args.seat v
    (entry_there c.args.core.now.seats.items c.args.seat c.requires.seat).0 keeps below at
    (seat_is c.requires.seat (entry_there c.args.core.now.seats.items c.args.seat c.requires.seat).1)
    c.args.d c.args.value c.anchor_state.result c.anchor.result c.usage.result c.if-value-eq0.false
    (let e = c.if-value-anchor_after_take_all.false in let f = c.anchor_after_take_all.ensures in
    omega arith) c.usage.ensures (ap (λ x. cutting_in x + split_in x) c.in-Nothing.is) c.anchor_state.ensures c.anchor.ensures

pub returns-in-Raw : goal.returns-in-Raw
returns-in-Raw c = λ k views v keeps below at. other_anchor c.args.core.now k views c.args.seat v
    (entry_there c.args.core.now.seats.items c.args.seat c.requires.seat).0 keeps below at
    (seat_is c.requires.seat (entry_there c.args.core.now.seats.items c.args.seat c.requires.seat).1)
    c.args.d c.args.value c.anchor_state-in-Raw.result c.anchor-in-Raw.result c.usage.result c.if-value-eq0.false
    (let e = c.if-value-anchor_after_take_all.false in let f = c.anchor_after_take_all.ensures in
    omega arith) c.usage.ensures (ap (λ x. cutting_in x + split_in x) c.in-Raw.is) c.anchor_state-in-Raw.ensures c.anchor-in-Raw.ensures

pub returns-in-Classed : goal.returns-in-Classed
returns-in-Classed c = λ k views v keeps below at. other_anchor c.args.core.now k views c.args.seat v
    (entry_there c.args.core.now.seats.items c.args.seat c.requires.seat).0 keeps below at
    (seat_is c.requires.seat (entry_there c.args.core.now.seats.items c.args.seat c.requires.seat).1)
    c.args.d c.args.value c.anchor_state-in-Classed.result c.anchor-in-Classed.result c.usage.result c.if-value-eq0.false
    (let e = c.if-value-anchor_after_take_all.false in let f = c.anchor_after_take_all.ensures in
    omega arith) c.usage.ensures (ap (λ x. cutting_in x + split_in x) c.in-Classed.is) c.anchor_state-in-Classed.ensures c.anchor-in-Classed.ensures

pub returns-in-Large : goal.returns-in-Large
returns-in-Large c = λ k views v keeps below at. other_anchor c.args.core.now k views c.args.seat v
    (entry_there c.args.core.now.seats.items c.args.seat c.requires.seat).0 keeps below at
    (seat_is c.requires.seat (entry_there c.args.core.now.seats.items c.args.seat c.requires.seat).1)
    c.args.d c.args.value c.anchor_state-in-Large.result c.anchor-in-Large.result c.usage.result c.if-value-eq0.false
    (let e = c.if-value-anchor_after_take_all.false in let f = c.anchor_after_take_all.ensures in
    omega arith) c.usage.ensures (ap (λ x. cutting_in x + split_in x) c.in-Large.is) c.anchor_state-in-Large.ensures c.anchor-in-Large.ensures
