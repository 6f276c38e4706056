use Rattle.std.proofs.Common.{inr, true, false, sym, ap, subst, Some, ◌∙◌, arith}
use Rattle.std.specs.Prelude.{IsSome}
use Rattle.c_dictionary.specs.Ready.{IsHeldAt}
use Rattle.c_dictionary.specs.declared.store.Store.{Store}
use Rattle.dict_model.specs.Nodes.{shard_of}
use Rattle.dict_model.specs.Requests.{without_key}
use Rattle.dict_requests.specs.Changes.{MayChange}
use Rattle.dict_requests.specs.Answers.{Deletes}
use Rattle.c_dictionary.proofs.StateLemmas.{closed, closed_refused, halted_not, halted_refused, lent_at, refused_new, refused_none, some_at}
use Rattle.c_dictionary.proofs.Numbers.{not_zero, not_one, not_low, low_goes}
use Rattle.c_dictionary.proofs.Passing.{passes, becomes}
use Rattle.c_dictionary.proofs.calls.heap_del.Goals as goal

pub returns-then-state-ne-GOING-clause-found : goal.returns-then-state-ne-GOING-clause-found
returns-then-state-ne-GOING-clause-found c = λ e. absurd (not_zero c.refusal.result c.refusal.ensures.refused e)

pub returns-clause-found : goal.returns-clause-found
returns-clause-found c = λ e. passes c.args.handle.now.value c.state-state.new.self.value c.set.new.self.value c.take.result.value
    c.into_box-store.result.value c.deref_mut.result.now c.del-status.new.store c.of.result.value c.state-state.ensures.1 c.take.ensures.0
    c.into_box-store.ensures c.deref_mut.ensures.value c.set.ensures c.of.ensures (Deletes c.args.key true) (c.del-status.ensures.found e)

pub returns-then-state-ne-GOING-clause-absent : goal.returns-then-state-ne-GOING-clause-absent
returns-then-state-ne-GOING-clause-absent c = λ e. absurd (not_one c.refusal.result c.refusal.ensures.refused e)

pub returns-clause-absent : goal.returns-clause-absent
returns-clause-absent c = λ e. passes c.args.handle.now.value c.state-state.new.self.value c.set.new.self.value c.take.result.value
    c.into_box-store.result.value c.deref_mut.result.now c.del-status.new.store c.of.result.value c.state-state.ensures.1 c.take.ensures.0
    c.into_box-store.ensures c.deref_mut.ensures.value c.set.ensures c.of.ensures (Deletes c.args.key false) (c.del-status.ensures.absent e)

pub returns-then-state-ne-GOING-clause-gone : goal.returns-then-state-ne-GOING-clause-gone
returns-then-state-ne-GOING-clause-gone c = λ e. absurd (not_low c.refusal.result c.refusal.ensures.refused e)

pub returns-clause-gone : goal.returns-clause-gone
returns-clause-gone c = λ e. becomes c.args.handle.now.value c.state-state.new.self.value c.set.new.self.value c.take.result.value
    c.into_box-store.result.value c.deref_mut.result.now c.del-status.new.store c.of.result.value c.state-state.ensures.1 c.take.ensures.0
    c.into_box-store.ensures c.deref_mut.ensures.value c.set.ensures c.of.ensures (λ map. without_key map c.args.key)
    (c.del-status.ensures.gone (low_goes c.del-status.result e))

pub returns-clause-crash : goal.returns-clause-crash
returns-clause-crash c = inr (passes c.args.handle.now.value c.state-state.new.self.value c.set.new.self.value c.take.result.value
    c.into_box-store.result.value c.deref_mut.result.now c.del-status.new.store c.of.result.value c.state-state.ensures.1 c.take.ensures.0
    c.into_box-store.ensures c.deref_mut.ensures.value c.set.ensures c.of.ensures
    (MayChange (shard_of c.args.key) (λ map. without_key map c.args.key)) c.del-status.ensures.crash)

pub take-requires : goal.take-requires
take-requires c = subst IsSome (sym c.state-state.ensures.1)
    (some_at c.state-state.result c.args.handle.now.value c.state-state.ensures.0 (λ zero. omega arith))

pub del-status-requires-clause-ready : goal.del-status-requires-clause-ready
del-status-requires-clause-ready c = (lent_at c.state-state.result c.args.handle.now.value c.state-state.new.self.value c.take.result.value
    c.into_box-store.result.value c.deref_mut.result.now c.state-state.ensures.0 c.state-state.ensures.1 c.take.ensures.0
    c.into_box-store.ensures c.deref_mut.ensures.value).going (omega arith)

pub del-status-requires-clause-sound : goal.del-status-requires-clause-sound
del-status-requires-clause-sound c = (lent_at c.state-state.result c.args.handle.now.value c.state-state.new.self.value c.take.result.value
    c.into_box-store.result.value c.deref_mut.result.now c.state-state.ensures.0 c.state-state.ensures.1 c.take.ensures.0
    c.into_box-store.ensures c.deref_mut.ensures.value).sound

-- it goes on, or has stopped
pub set-requires : goal.set-requires
set-requires c = subst (λ (s : Store). IsHeldAt c.state_after.result s) (sym c.of.ensures) (record {
  some = c.state_after.ensures.some;
  sound = c.del-status.ensures.sound;
  going = λ one. c.del-status.ensures.ready (c.state_after.ensures.going one);
  halted = λ other. c.del-status.ensures.stopped (c.state_after.ensures.halted other);
})

pub returns-then-state-ne-GOING-clause-stopped : goal.returns-then-state-ne-GOING-clause-stopped
returns-then-state-ne-GOING-clause-stopped c = refused_new c.state-state.result c.refusal.result c.args.handle.now.value
    c.state-state.new.self.value
    c.state-state.ensures.0 c.state-state.ensures.1 c.refusal.ensures.closed (λ one. omega arith)

pub returns-clause-stopped : goal.returns-clause-stopped
returns-clause-stopped c = λ e. record {
  store = c.del-status.new.store;
  has = c.set.ensures ∙ ap Some c.of.ensures;
  stopped = c.del-status.ensures.stopped e;
}

pub returns-then-state-ne-GOING-clause-halted : goal.returns-then-state-ne-GOING-clause-halted
returns-then-state-ne-GOING-clause-halted c = halted_refused c.state-state.result c.refusal.result c.args.handle.now.value
    c.state-state.new.self.value
    c.state-state.ensures.0 c.state-state.ensures.1 c.refusal.ensures.closed c.refusal.ensures.refused

pub returns-clause-halted : goal.returns-clause-halted
returns-clause-halted c = λ halted. absurd (halted_not c.state-state.result c.args.handle.now.value c.state-state.ensures.0 halted (omega arith))

pub returns-then-state-ne-GOING-clause-usage : goal.returns-then-state-ne-GOING-clause-usage
returns-then-state-ne-GOING-clause-usage c = (
  refused_none c.state-state.result c.refusal.result c.args.handle.now.value c.state-state.new.self.value
      c.state-state.ensures.0 c.state-state.ensures.1 c.refusal.ensures.closed,
  closed_refused c.state-state.result c.refusal.result c.args.handle.now.value c.state-state.new.self.value
      c.state-state.ensures.0 c.state-state.ensures.1 c.refusal.ensures.closed,
)

pub returns-clause-usage : goal.returns-clause-usage
returns-clause-usage c = (
  (λ e. absurd (c.del-status.ensures.answers e)),
  (λ none. absurd (let zero = closed c.state-state.result
      c.args.handle.now.value c.state-state.ensures.0 none in omega arith)),
)

pub returns-clause-kept : goal.returns-clause-kept
returns-clause-kept c = λ e. absurd (c.del-status.ensures.answers e)
