use Rattle.std.proofs.Common.{◌≡◌, ◌+◌, ◌∙◌, cond, nat_eq, eq-eqb, refl, sym, ap, arith}
use Rattle.heap_model.specs.Words.{large_info}
use Rattle.core_model.proofs.PlaceLemmas.{pick, skip, not-eq}
use Rattle.seat_state.specs.Superblocks.{raw_in, split_in}
use Rattle.seat_state.proofs.DecisionLemmas.{refused}
use Rattle.seat_state.proofs.WordLemmas.{entry_there}
use Rattle.crash_core.proofs.JoinDecision.{unclaimed, join_split, join_raw}
use Rattle.crash_core.proofs.spans.may_join.Goals as goal
use Rattle.crash_core.proofs.StandingLemmas.{seat_is}
use Rattle.crash_core.proofs.spans.may_join.Goals.{then-e-d, else-e-d}

pub returns-in-Split : goal.returns-in-Split
returns-in-Split c = λ k views v keeps below at. (
  λ e. join_split c.args.core.now k views c.args.seat v
      (entry_there c.args.core.now.seats.items c.args.seat c.requires.seat).0 keeps below at
      (seat_is c.requires.seat (entry_there c.args.core.now.seats.items c.args.seat c.requires.seat).1) c.args.d c.args.n c.args.e c.if-e-d.wanted
      (elim c.if-e-d.branch as (λ _. c.if-e-d.wanted ≡ cond (nat_eq c.args.e c.args.d) (large_info c.args.n) 0) [
        | then-e-d w ↦ w.wanted-is
            ∙ w.pack-wanted.ensures ∙ sym (pick (nat_eq c.args.e c.args.d) (large_info c.args.n) 0 (eq-eqb c.args.e c.args.d w.if-e-d.true))
        | else-e-d w ↦ w.wanted-is ∙ sym (skip (nat_eq c.args.e c.args.d) (large_info c.args.n) 0 (not-eq c.args.e c.args.d w.if-e-d.false))
      ])
      c.info.result c.durable_info.result c.info.ensures (let e = c.if-info-wanted.false in
      omega arith) c.durable_info.ensures (let e = c.if-durable_info-wanted.false in omega arith) (sym c.in-Split.is ∙ c.usage.ensures),
  λ may. refl,
)

pub returns-in-Raw : goal.returns-in-Raw
returns-in-Raw c = λ k views v keeps below at. join_raw c.args.core.now k views c.args.seat v
    (entry_there c.args.core.now.seats.items c.args.seat c.requires.seat).0 keeps below at
    (seat_is c.requires.seat (entry_there c.args.core.now.seats.items c.args.seat c.requires.seat).1) c.args.d c.args.n c.args.e c.if-e-d.wanted
    (elim c.if-e-d.branch as (λ _. c.if-e-d.wanted ≡ cond (nat_eq c.args.e c.args.d) (large_info c.args.n) 0) [
      | then-e-d w ↦ w.wanted-is
          ∙ w.pack-wanted.ensures ∙ sym (pick (nat_eq c.args.e c.args.d) (large_info c.args.n) 0 (eq-eqb c.args.e c.args.d w.if-e-d.true))
      | else-e-d w ↦ w.wanted-is ∙ sym (skip (nat_eq c.args.e c.args.d) (large_info c.args.n) 0 (not-eq c.args.e c.args.d w.if-e-d.false))
    ])
    c.info.result c.durable_info.result c.info.ensures (let e = c.if-info-wanted.false in
    omega arith) c.durable_info.ensures (let e = c.if-durable_info-wanted.false in
    omega arith) c.anchor_state.result c.anchor.result (sym c.in-Raw.is ∙ c.usage.ensures) c.anchor_state.ensures c.anchor.ensures

pub returns-in-Nothing : goal.returns-in-Nothing
returns-in-Nothing c = λ k views v keeps below at. refused (unclaimed c.args.core.now k views c.args.seat v
    (entry_there c.args.core.now.seats.items c.args.seat c.requires.seat).0 keeps below at
    (seat_is c.requires.seat (entry_there c.args.core.now.seats.items c.args.seat c.requires.seat).1) c.args.d c.args.n c.args.e c.if-e-d.wanted
    (elim c.if-e-d.branch as (λ _. c.if-e-d.wanted ≡ cond (nat_eq c.args.e c.args.d) (large_info c.args.n) 0) [
      | then-e-d w ↦ w.wanted-is
          ∙ w.pack-wanted.ensures ∙ sym (pick (nat_eq c.args.e c.args.d) (large_info c.args.n) 0 (eq-eqb c.args.e c.args.d w.if-e-d.true))
      | else-e-d w ↦ w.wanted-is ∙ sym (skip (nat_eq c.args.e c.args.d) (large_info c.args.n) 0 (not-eq c.args.e c.args.d w.if-e-d.false))
    ])
    c.usage.result c.usage.ensures (ap (λ x. raw_in x + split_in x) c.in-Nothing.is))

pub returns-in-Cutting : goal.returns-in-Cutting
returns-in-Cutting c = λ k views v keeps below at. refused (unclaimed c.args.core.now k views c.args.seat v
    (entry_there c.args.core.now.seats.items c.args.seat c.requires.seat).0 keeps below at
    (seat_is c.requires.seat (entry_there c.args.core.now.seats.items c.args.seat c.requires.seat).1) c.args.d c.args.n c.args.e c.if-e-d.wanted
    (elim c.if-e-d.branch as (λ _. c.if-e-d.wanted ≡ cond (nat_eq c.args.e c.args.d) (large_info c.args.n) 0) [
      | then-e-d w ↦ w.wanted-is
          ∙ w.pack-wanted.ensures ∙ sym (pick (nat_eq c.args.e c.args.d) (large_info c.args.n) 0 (eq-eqb c.args.e c.args.d w.if-e-d.true))
      | else-e-d w ↦ w.wanted-is ∙ sym (skip (nat_eq c.args.e c.args.d) (large_info c.args.n) 0 (not-eq c.args.e c.args.d w.if-e-d.false))
    ])
    c.usage.result c.usage.ensures (ap (λ x. raw_in x + split_in x) c.in-Cutting.is))

pub returns-in-Classed : goal.returns-in-Classed
returns-in-Classed c = λ k views v keeps below at. refused (unclaimed c.args.core.now k views c.args.seat v
    (entry_there c.args.core.now.seats.items c.args.seat c.requires.seat).0 keeps below at
    (seat_is c.requires.seat (entry_there c.args.core.now.seats.items c.args.seat c.requires.seat).1) c.args.d c.args.n c.args.e c.if-e-d.wanted
    (elim c.if-e-d.branch as (λ _. c.if-e-d.wanted ≡ cond (nat_eq c.args.e c.args.d) (large_info c.args.n) 0) [
      | then-e-d w ↦ w.wanted-is
          ∙ w.pack-wanted.ensures ∙ sym (pick (nat_eq c.args.e c.args.d) (large_info c.args.n) 0 (eq-eqb c.args.e c.args.d w.if-e-d.true))
      | else-e-d w ↦ w.wanted-is ∙ sym (skip (nat_eq c.args.e c.args.d) (large_info c.args.n) 0 (not-eq c.args.e c.args.d w.if-e-d.false))
    ])
    c.usage.result c.usage.ensures (ap (λ x. raw_in x + split_in x) c.in-Classed.is))

pub returns-in-Large : goal.returns-in-Large
returns-in-Large c = λ k views v keeps below at. refused (unclaimed c.args.core.now k views c.args.seat v
    (entry_there c.args.core.now.seats.items c.args.seat c.requires.seat).0 keeps below at
    (seat_is c.requires.seat (entry_there c.args.core.now.seats.items c.args.seat c.requires.seat).1) c.args.d c.args.n c.args.e c.if-e-d.wanted
    (elim c.if-e-d.branch as (λ _. c.if-e-d.wanted ≡ cond (nat_eq c.args.e c.args.d) (large_info c.args.n) 0) [
      | then-e-d w ↦ w.wanted-is
          ∙ w.pack-wanted.ensures ∙ sym (pick (nat_eq c.args.e c.args.d) (large_info c.args.n) 0 (eq-eqb c.args.e c.args.d w.if-e-d.true))
      | else-e-d w ↦ w.wanted-is ∙ sym (skip (nat_eq c.args.e c.args.d) (large_info c.args.n) 0 (not-eq c.args.e c.args.d w.if-e-d.false))
    ])
    c.usage.result c.usage.ensures (ap (λ x. raw_in x + split_in x) c.in-Large.is))
