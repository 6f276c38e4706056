use Rattle.std.proofs.Common.{Some, None, sym, ap, subst, ◌∙◌, arith}
use Rattle.std.specs.Prelude.{IsSome}
use Rattle.c_dictionary.specs.Ready.{IsHeldAt}
use Rattle.c_dictionary.specs.declared.store.Store.{Store}
use Rattle.dict_requests.specs.Gets.{Gets}
use Rattle.c_dictionary.proofs.StateLemmas.{closed, closed_refused, halted_not, halted_refused, lent_at, refused_new, refused_none, some_at}
use Rattle.c_dictionary.proofs.Numbers.{not_zero, not_one, not_low, low_goes}
use Rattle.c_dictionary.proofs.Passing.{passes, becomes}
use Rattle.c_dictionary.proofs.calls.heap_get.Goals as goal

pub returns-then-state-ne-GOING-clause-found : goal.returns-then-state-ne-GOING-clause-found
returns-then-state-ne-GOING-clause-found c = λ e. absurd (not_zero c.refusal.result c.refusal.ensures.refused e)

pub returns-clause-found : goal.returns-clause-found
returns-clause-found c = λ e. passes c.args.handle.now.value c.state-state.new.self.value c.set.new.self.value c.take.result.value
    c.into_box-store.result.value c.deref_mut.result.now c.get-status.new.store c.of.result.value c.state-state.ensures.1 c.take.ensures.0
    c.into_box-store.ensures c.deref_mut.ensures.value c.set.ensures c.of.ensures
    (Gets c.args.key (Some c.get-status.new.length) c.args.room.now c.get-status.new.room) (c.get-status.ensures.found e)

pub returns-then-state-ne-GOING-clause-absent : goal.returns-then-state-ne-GOING-clause-absent
returns-then-state-ne-GOING-clause-absent c = λ e. absurd (not_one c.refusal.result c.refusal.ensures.refused e)

pub returns-clause-absent : goal.returns-clause-absent
returns-clause-absent c = λ e. passes c.args.handle.now.value c.state-state.new.self.value c.set.new.self.value c.take.result.value
    c.into_box-store.result.value c.deref_mut.result.now c.get-status.new.store c.of.result.value c.state-state.ensures.1 c.take.ensures.0
    c.into_box-store.ensures c.deref_mut.ensures.value c.set.ensures c.of.ensures (Gets c.args.key None c.args.room.now c.get-status.new.room)
    (c.get-status.ensures.absent e)

pub returns-then-state-ne-GOING-clause-same : goal.returns-then-state-ne-GOING-clause-same
returns-then-state-ne-GOING-clause-same c = λ e. absurd (not_low c.refusal.result c.refusal.ensures.refused e)

pub returns-clause-same : goal.returns-clause-same
returns-clause-same c = λ e. becomes c.args.handle.now.value c.state-state.new.self.value c.set.new.self.value c.take.result.value
    c.into_box-store.result.value c.deref_mut.result.now c.get-status.new.store c.of.result.value c.state-state.ensures.1 c.take.ensures.0
    c.into_box-store.ensures c.deref_mut.ensures.value c.set.ensures c.of.ensures (λ map. map)
    (c.get-status.ensures.same (low_goes c.get-status.result e))

pub take-requires : goal.take-requires
take-requires c = subst IsSome (sym c.state-state.ensures.1)
    (some_at c.state-state.result c.args.handle.now.value c.state-state.ensures.0 (λ zero. omega arith))

pub get-status-requires-clause-ready : goal.get-status-requires-clause-ready
get-status-requires-clause-ready c = (lent_at c.state-state.result c.args.handle.now.value c.state-state.new.self.value c.take.result.value
    c.into_box-store.result.value c.deref_mut.result.now c.state-state.ensures.0 c.state-state.ensures.1 c.take.ensures.0
    c.into_box-store.ensures c.deref_mut.ensures.value).going (omega arith)

pub get-status-requires-clause-sound : goal.get-status-requires-clause-sound
get-status-requires-clause-sound c = (lent_at c.state-state.result c.args.handle.now.value c.state-state.new.self.value c.take.result.value
    c.into_box-store.result.value c.deref_mut.result.now c.state-state.ensures.0 c.state-state.ensures.1 c.take.ensures.0
    c.into_box-store.ensures c.deref_mut.ensures.value).sound

-- it goes on, or has stopped
pub set-requires : goal.set-requires
set-requires c = subst (λ (s : Store). IsHeldAt c.state_after.result s) (sym c.of.ensures) (record {
  some = c.state_after.ensures.some;
  sound = c.get-status.ensures.sound;
  going = λ one. c.get-status.ensures.ready (c.state_after.ensures.going one);
  halted = λ other. c.get-status.ensures.stopped (c.state_after.ensures.halted other);
})

pub returns-then-state-ne-GOING-clause-stopped : goal.returns-then-state-ne-GOING-clause-stopped
returns-then-state-ne-GOING-clause-stopped c = refused_new c.state-state.result c.refusal.result c.args.handle.now.value
    c.state-state.new.self.value
    c.state-state.ensures.0 c.state-state.ensures.1 c.refusal.ensures.closed (λ one. omega arith)

pub returns-clause-stopped : goal.returns-clause-stopped
returns-clause-stopped c = λ e. record {
  store = c.get-status.new.store;
  has = c.set.ensures ∙ ap Some c.of.ensures;
  stopped = c.get-status.ensures.stopped e;
}

pub returns-then-state-ne-GOING-clause-halted : goal.returns-then-state-ne-GOING-clause-halted
returns-then-state-ne-GOING-clause-halted c = halted_refused c.state-state.result c.refusal.result c.args.handle.now.value
    c.state-state.new.self.value
    c.state-state.ensures.0 c.state-state.ensures.1 c.refusal.ensures.closed c.refusal.ensures.refused

pub returns-clause-halted : goal.returns-clause-halted
returns-clause-halted c = λ halted. absurd (halted_not c.state-state.result c.args.handle.now.value c.state-state.ensures.0 halted (omega arith))

pub returns-then-state-ne-GOING-clause-usage : goal.returns-then-state-ne-GOING-clause-usage
returns-then-state-ne-GOING-clause-usage c = (
  refused_none c.state-state.result c.refusal.result c.args.handle.now.value c.state-state.new.self.value
      c.state-state.ensures.0 c.state-state.ensures.1 c.refusal.ensures.closed,
  closed_refused c.state-state.result c.refusal.result c.args.handle.now.value c.state-state.new.self.value
      c.state-state.ensures.0 c.state-state.ensures.1 c.refusal.ensures.closed,
)

pub returns-clause-usage : goal.returns-clause-usage
returns-clause-usage c = (
  (λ e. absurd (c.get-status.ensures.answers e)),
  (λ none. absurd (let zero = closed c.state-state.result
      c.args.handle.now.value c.state-state.ensures.0 none in omega arith)),
)

pub returns-clause-kept : goal.returns-clause-kept
returns-clause-kept c = λ e. absurd (c.get-status.ensures.answers e)
