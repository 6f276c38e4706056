use Rattle.std.proofs.Common.{refl, sym, subst, true≢false, inl, inr, arith}
use Rattle.std.proofs.lemmas.Bool.{cases_eq}
use Rattle.core_model.specs.Memory.{memory_of}
use Rattle.crash_core.specs.Standing.{MayJoin}
use Rattle.seat_state.proofs.DecisionLemmas.{refused}
use Rattle.seat_state.proofs.WordLemmas.{entry_there}
use Rattle.crash_core.proofs.JoinDecision.{large_none, large_past, joins, all_join}
use Rattle.crash_core.proofs.StandingLemmas.{seat_is}
use Rattle.crash_core.proofs.spans.may_hold_large.Goals as goal

pub returns-then-n-eq0 : goal.returns-then-n-eq0
returns-then-n-eq0 c = λ k views v keeps below at. refused (large_none c.args.core.now k views c.args.seat v
    (entry_there c.args.core.now.seats.items c.args.seat c.requires.seat).0 keeps below at
    (seat_is c.requires.seat (entry_there c.args.core.now.seats.items c.args.seat c.requires.seat).1) c.args.d c.args.n c.if-n-eq0.true)

pub returns-then-n-mark : goal.returns-then-n-mark
returns-then-n-mark c = λ k views v keeps below at. refused (large_past c.args.core.now k views c.args.seat v
    (entry_there c.args.core.now.seats.items c.args.seat c.requires.seat).0 keeps below at
    (seat_is c.requires.seat (entry_there c.args.core.now.seats.items c.args.seat c.requires.seat).1) c.args.d c.args.n
    (let e = c.durable_used-mark.ensures in let f = c.if-n-mark.true in omega arith))

pub returns-then-d-mark : goal.returns-then-d-mark
returns-then-d-mark c = λ k views v keeps below at. refused (large_past c.args.core.now k views c.args.seat v
    (entry_there c.args.core.now.seats.items c.args.seat c.requires.seat).0 keeps below at
    (seat_is c.requires.seat (entry_there c.args.core.now.seats.items c.args.seat c.requires.seat).1) c.args.d c.args.n
    (let e = c.durable_used-mark.ensures in let f = c.if-n-mark.false in let g = c.if-d-mark.true in omega arith))

pub returns-then-not-may_join : goal.returns-then-not-may_join
returns-then-not-may_join c = λ k views v keeps below at. refused (λ may. true≢false (sym ((c.if-not-may_join.ensures k views v keeps below at).1
    (joins c.args.core.now k views c.args.seat v (entry_there c.args.core.now.seats.items c.args.seat c.requires.seat).0 keeps below at
    (seat_is c.requires.seat (entry_there c.args.core.now.seats.items c.args.seat c.requires.seat).1) c.args.d c.args.n c.loop-e.e
    (let a = c.loop-e.auto.e in omega arith) (let b = c.loop-e-test.true in omega arith) may))))

pub loop-e-preserved : goal.loop-e-preserved
loop-e-preserved c = λ k views v keeps below at. (
  λ e x low less. elim (cases_eq x c.loop-e.e) [
    | inl here ↦ subst (λ y. MayJoin (memory_of k.capacity c.args.core.now.words.items) v c.args.d c.args.n y) (sym here)
        ((c.if-not-may_join.ensures k views v keeps below at).0 refl)
    | inr other ↦ (c.loop-e.invariant k views v keeps below at).0 refl x low (omega arith)
  ],
  λ all. refl,
)

pub returns : goal.returns
returns c = λ k views v keeps below at. (
  λ e. all_join c.args.core.now k views c.args.seat v (entry_there c.args.core.now.seats.items c.args.seat c.requires.seat).0 keeps below at
      (seat_is c.requires.seat (entry_there c.args.core.now.seats.items c.args.seat c.requires.seat).1) c.args.d c.args.n
      (let f = c.if-n-eq0.false in omega arith) (let e = c.durable_used-mark.ensures in let f = c.if-n-mark.false in
      let g = c.if-d-mark.false in omega arith)
      (λ x low less. (c.loop-e.invariant k views v keeps below at).0 refl x low (let b = c.loop-e-test.false in omega arith)),
  λ may. refl,
)
