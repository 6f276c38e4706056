use Rattle.std.proofs.Common.{◌+◌, sym, ◌≡◌, refl, subst, arith}
use Rattle.std.specs.Prelude.{IsSome}
use Rattle.c_dictionary.specs.Ready.{IsHeldAt}
use Rattle.c_dictionary.specs.Keys.{IsLeastFrom, HasNoneFrom}
use Rattle.c_dictionary.proofs.StateLemmas.{closed, closed_refused, halted_not, halted_refused, lent_at, refused_halted, refused_none, some_at}
use Rattle.c_dictionary.proofs.Numbers.{not_zero, not_one, low_goes, low_not_two}
use Rattle.c_dictionary.proofs.Passing.{stays, tells}
use Rattle.c_dictionary.proofs.calls.heap_next.Goals as goal

pub returns-then-state-ne-GOING-clause-found : goal.returns-then-state-ne-GOING-clause-found
returns-then-state-ne-GOING-clause-found c = λ e. absurd (not_zero c.refusal.result c.refusal.ensures.refused e)

pub returns-clause-found : goal.returns-clause-found
returns-clause-found c = λ e. tells c.args.handle.now.value c.state-state.new.self.value c.set.new.self.value c.take.result.value
    c.into_box-store.result.value c.deref.result.now c.into_box-store.result.value c.of.result.value c.state-state.ensures.1 c.take.ensures.0
    c.into_box-store.ensures c.deref.ensures c.set.ensures c.of.ensures (λ map. IsLeastFrom (c.args.key + 1) map c.tell_least-status.new.found)
    (sym c.deref.ensures) (c.tell_least-status.ensures.found e)

pub returns-then-state-ne-GOING-clause-absent : goal.returns-then-state-ne-GOING-clause-absent
returns-then-state-ne-GOING-clause-absent c = λ e _. absurd (not_one c.refusal.result c.refusal.ensures.refused e)

pub returns-clause-absent : goal.returns-clause-absent
returns-clause-absent c = λ e _. tells c.args.handle.now.value c.state-state.new.self.value c.set.new.self.value c.take.result.value
    c.into_box-store.result.value c.deref.result.now c.into_box-store.result.value c.of.result.value c.state-state.ensures.1 c.take.ensures.0
    c.into_box-store.ensures c.deref.ensures c.set.ensures c.of.ensures (λ map. HasNoneFrom (c.args.key + 1) map) (sym c.deref.ensures)
    (c.tell_least-status.ensures.absent e)

pub take-requires : goal.take-requires
take-requires c = subst IsSome (sym c.state-state.ensures.1)
    (some_at c.state-state.result c.args.handle.now.value c.state-state.ensures.0 (λ zero. omega arith))

pub set-requires : goal.set-requires
set-requires c =
    let one : c.state-state.result ≡ 1 = omega arith in
    subst (IsHeldAt 1) (sym c.of.ensures) (subst (λ n. IsHeldAt n c.into_box-store.result.value) one (lent_at c.state-state.result
    c.args.handle.now.value c.state-state.new.self.value c.take.result.value
    c.into_box-store.result.value c.into_box-store.result.value c.state-state.ensures.0 c.state-state.ensures.1 c.take.ensures.0
    c.into_box-store.ensures refl))

pub returns-then-state-ne-GOING-clause-stopped : goal.returns-then-state-ne-GOING-clause-stopped
returns-then-state-ne-GOING-clause-stopped c = (
  refused_halted c.state-state.result c.refusal.result c.args.handle.now.value c.state-state.new.self.value
      c.state-state.ensures.0 c.state-state.ensures.1 c.refusal.ensures.closed (λ one. omega arith),
  (λ halted. (halted_refused c.state-state.result c.refusal.result c.args.handle.now.value c.state-state.new.self.value
      c.state-state.ensures.0 c.state-state.ensures.1 c.refusal.ensures.closed c.refusal.ensures.refused halted).0),
)

pub returns-clause-stopped : goal.returns-clause-stopped
returns-clause-stopped c = (
  (λ e. absurd (low_goes c.tell_least-status.result c.tell_least-status.ensures.answers e)),
  (λ halted. absurd (halted_not c.state-state.result c.args.handle.now.value c.state-state.ensures.0 halted (omega arith))),
)

pub returns-then-state-ne-GOING-clause-usage : goal.returns-then-state-ne-GOING-clause-usage
returns-then-state-ne-GOING-clause-usage c = (
  refused_none c.state-state.result c.refusal.result c.args.handle.now.value c.state-state.new.self.value
      c.state-state.ensures.0 c.state-state.ensures.1 c.refusal.ensures.closed,
  closed_refused c.state-state.result c.refusal.result c.args.handle.now.value c.state-state.new.self.value
      c.state-state.ensures.0 c.state-state.ensures.1 c.refusal.ensures.closed,
)

pub returns-clause-usage : goal.returns-clause-usage
returns-clause-usage c = (
  (λ e. absurd (low_not_two c.tell_least-status.result c.tell_least-status.ensures.answers e)),
  (λ none. absurd
      (let zero = closed c.state-state.result c.args.handle.now.value c.state-state.ensures.0 none in omega arith)),
)

pub returns-clause-kept : goal.returns-clause-kept
returns-clause-kept c = stays c.args.handle.now.value c.state-state.new.self.value c.set.new.self.value c.take.result.value
    c.into_box-store.result.value c.into_box-store.result.value c.into_box-store.result.value c.of.result.value c.state-state.ensures.1
    c.take.ensures.0 c.into_box-store.ensures refl c.set.ensures c.of.ensures refl
