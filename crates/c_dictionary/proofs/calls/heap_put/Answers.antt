use Rattle.std.proofs.Common.{◌≡◌, ◌⊎◌, inl, inr, sym, subst, ap, Some, ◌∙◌, arith}
use Rattle.std.specs.Prelude.{IsSome}
use Rattle.c_dictionary.specs.Ready.{IsHeldAt}
use Rattle.c_dictionary.specs.declared.store.Store.{Store}
use Rattle.heap_seat.specs.View.{View}
use Rattle.block_heap.specs.SeqState.{seat_of}
use Rattle.dict_model.specs.Nodes.{shard_of}
use Rattle.dict_model.specs.Requests.{with_key}
use Rattle.dict_requests.specs.Changes.{MayChange, Changes}
use Rattle.c_dictionary.specs.Passing.{HadNoRoom, MayPass}
use Rattle.c_dictionary.proofs.StateLemmas.{closed, closed_refused, halted_not, halted_refused, lent_at, refused_new, refused_none, some_at}
use Rattle.c_dictionary.proofs.Numbers.{not_zero, not_three, not_eleven}
use Rattle.c_dictionary.proofs.Passing.{passes, becomes, stays}
use Rattle.c_dictionary.proofs.calls.heap_put.Goals as goal

pub returns-then-state-ne-GOING-clause-done : goal.returns-then-state-ne-GOING-clause-done
returns-then-state-ne-GOING-clause-done c = λ e. absurd (not_zero c.refusal.result c.refusal.ensures.refused e)

pub returns-clause-done : goal.returns-clause-done
returns-clause-done c = λ e. passes c.args.handle.now.value c.state-state.new.self.value c.set.new.self.value c.take.result.value
    c.into_box-store.result.value c.deref_mut.result.now c.put-status.new.store c.of.result.value c.state-state.ensures.1 c.take.ensures.0
    c.into_box-store.ensures c.deref_mut.ensures.value c.set.ensures c.of.ensures
    (Changes (shard_of c.args.key) (λ map. with_key map c.args.key c.args.value.now)) (c.put-status.ensures.done e)

pub returns-then-state-ne-GOING-clause-set : goal.returns-then-state-ne-GOING-clause-set
returns-then-state-ne-GOING-clause-set c = λ e. absurd (not_zero c.refusal.result c.refusal.ensures.refused e)

pub returns-clause-set : goal.returns-clause-set
returns-clause-set c = λ e. becomes c.args.handle.now.value c.state-state.new.self.value c.set.new.self.value c.take.result.value
    c.into_box-store.result.value c.deref_mut.result.now c.put-status.new.store c.of.result.value c.state-state.ensures.1 c.take.ensures.0
    c.into_box-store.ensures c.deref_mut.ensures.value c.set.ensures c.of.ensures (λ map. with_key map c.args.key c.args.value.now)
    (c.put-status.ensures.set e)

pub returns-then-state-ne-GOING-clause-full : goal.returns-then-state-ne-GOING-clause-full
returns-then-state-ne-GOING-clause-full c = λ e. absurd (not_eleven c.refusal.result c.refusal.ensures.refused e)

pub returns-clause-full : goal.returns-clause-full
returns-clause-full c = λ e. passes c.args.handle.now.value c.state-state.new.self.value c.set.new.self.value c.take.result.value
    c.into_box-store.result.value c.deref_mut.result.now c.put-status.new.store c.of.result.value c.state-state.ensures.1 c.take.ensures.0
    c.into_box-store.ensures c.deref_mut.ensures.value c.set.ensures c.of.ensures (Changes (shard_of c.args.key) (λ map. map))
    (c.put-status.ensures.full e)

pub returns-then-state-ne-GOING-clause-room : goal.returns-then-state-ne-GOING-clause-room
returns-then-state-ne-GOING-clause-room c = λ e. absurd (not_eleven c.refusal.result c.refusal.ensures.refused e)

pub returns-clause-room : goal.returns-clause-room
returns-clause-room c = λ e. passes c.args.handle.now.value c.state-state.new.self.value c.set.new.self.value c.take.result.value
    c.into_box-store.result.value c.deref_mut.result.now c.put-status.new.store c.of.result.value c.state-state.ensures.1 c.take.ensures.0
    c.into_box-store.ensures c.deref_mut.ensures.value c.set.ensures c.of.ensures (HadNoRoom c.args.key c.args.value.now)
    (c.put-status.ensures.room e)

pub returns-then-state-ne-GOING-clause-refused : goal.returns-then-state-ne-GOING-clause-refused
returns-then-state-ne-GOING-clause-refused c = λ e. absurd (not_eleven c.refusal.result c.refusal.ensures.refused e)

pub returns-clause-refused : goal.returns-clause-refused
returns-clause-refused c = λ e. becomes c.args.handle.now.value c.state-state.new.self.value c.set.new.self.value c.take.result.value
    c.into_box-store.result.value c.deref_mut.result.now c.put-status.new.store c.of.result.value c.state-state.ensures.1 c.take.ensures.0
    c.into_box-store.ensures c.deref_mut.ensures.value c.set.ensures c.of.ensures (λ map. map) (c.put-status.ensures.refused e)

pub returns-then-state-ne-GOING-clause-memory : goal.returns-then-state-ne-GOING-clause-memory
returns-then-state-ne-GOING-clause-memory c = λ e. absurd (not_three c.refusal.result c.refusal.ensures.refused e)

pub returns-clause-memory : goal.returns-clause-memory
returns-clause-memory c = λ e. stays c.args.handle.now.value c.state-state.new.self.value c.set.new.self.value c.take.result.value
    c.into_box-store.result.value c.deref_mut.result.now c.put-status.new.store c.of.result.value c.state-state.ensures.1 c.take.ensures.0
    c.into_box-store.ensures c.deref_mut.ensures.value c.set.ensures c.of.ensures (c.put-status.ensures.memory e)

-- what was refused for want of memory changed nothing
pub returns-clause-crash : goal.returns-clause-crash
returns-clause-crash c = may c.put-status.ensures.crash where
  how : View → View → Type 0
  how = MayChange (shard_of c.args.key) (λ map. with_key map c.args.key c.args.value.now)

  may : (c.put-status.new.store ≡ c.deref_mut.result.now) ⊎ how (seat_of c.deref_mut.result.now.heap) (seat_of c.put-status.new.store.heap)
      → MayPass c.args.handle.now.value c.set.new.self.value how
  may (inl same) = inl (stays c.args.handle.now.value c.state-state.new.self.value c.set.new.self.value c.take.result.value
      c.into_box-store.result.value c.deref_mut.result.now c.put-status.new.store c.of.result.value c.state-state.ensures.1 c.take.ensures.0
      c.into_box-store.ensures c.deref_mut.ensures.value c.set.ensures c.of.ensures same)
  may (inr is) = inr (passes c.args.handle.now.value c.state-state.new.self.value c.set.new.self.value c.take.result.value
      c.into_box-store.result.value c.deref_mut.result.now c.put-status.new.store c.of.result.value c.state-state.ensures.1 c.take.ensures.0
      c.into_box-store.ensures c.deref_mut.ensures.value c.set.ensures c.of.ensures how is)

pub take-requires : goal.take-requires
take-requires c = subst IsSome (sym c.state-state.ensures.1)
    (some_at c.state-state.result c.args.handle.now.value c.state-state.ensures.0 (λ zero. omega arith))

pub put-status-requires-clause-ready : goal.put-status-requires-clause-ready
put-status-requires-clause-ready c = (lent_at c.state-state.result c.args.handle.now.value c.state-state.new.self.value c.take.result.value
    c.into_box-store.result.value c.deref_mut.result.now c.state-state.ensures.0 c.state-state.ensures.1 c.take.ensures.0
    c.into_box-store.ensures c.deref_mut.ensures.value).going (omega arith)

pub put-status-requires-clause-sound : goal.put-status-requires-clause-sound
put-status-requires-clause-sound c = (lent_at c.state-state.result c.args.handle.now.value c.state-state.new.self.value c.take.result.value
    c.into_box-store.result.value c.deref_mut.result.now c.state-state.ensures.0 c.state-state.ensures.1 c.take.ensures.0
    c.into_box-store.ensures c.deref_mut.ensures.value).sound

-- it goes on, or has stopped
pub set-requires : goal.set-requires
set-requires c = subst (λ (s : Store). IsHeldAt c.state_after.result s) (sym c.of.ensures) (record {
  some = c.state_after.ensures.some;
  sound = c.put-status.ensures.sound;
  going = λ one. c.put-status.ensures.ready (c.state_after.ensures.going one);
  halted = λ other. c.put-status.ensures.stopped (c.state_after.ensures.halted other);
})

pub returns-then-state-ne-GOING-clause-stopped : goal.returns-then-state-ne-GOING-clause-stopped
returns-then-state-ne-GOING-clause-stopped c = refused_new c.state-state.result c.refusal.result c.args.handle.now.value
    c.state-state.new.self.value
    c.state-state.ensures.0 c.state-state.ensures.1 c.refusal.ensures.closed (λ one. omega arith)

pub returns-clause-stopped : goal.returns-clause-stopped
returns-clause-stopped c = λ e. record {
  store = c.put-status.new.store;
  has = c.set.ensures ∙ ap Some c.of.ensures;
  stopped = c.put-status.ensures.stopped e;
}

pub returns-then-state-ne-GOING-clause-halted : goal.returns-then-state-ne-GOING-clause-halted
returns-then-state-ne-GOING-clause-halted c = halted_refused c.state-state.result c.refusal.result c.args.handle.now.value
    c.state-state.new.self.value
    c.state-state.ensures.0 c.state-state.ensures.1 c.refusal.ensures.closed c.refusal.ensures.refused

pub returns-clause-halted : goal.returns-clause-halted
returns-clause-halted c = λ halted. absurd (halted_not c.state-state.result c.args.handle.now.value c.state-state.ensures.0 halted (omega arith))

pub returns-then-state-ne-GOING-clause-usage : goal.returns-then-state-ne-GOING-clause-usage
returns-then-state-ne-GOING-clause-usage c = λ e. (
  c.state-state.ensures.1,
  inl (refused_none c.state-state.result c.refusal.result
      c.args.handle.now.value c.state-state.new.self.value
      c.state-state.ensures.0 c.state-state.ensures.1 c.refusal.ensures.closed e),
)

pub returns-clause-usage : goal.returns-clause-usage
returns-clause-usage c = λ e. absurd (c.put-status.ensures.answers e)

pub returns-then-state-ne-GOING-clause-closed : goal.returns-then-state-ne-GOING-clause-closed
returns-then-state-ne-GOING-clause-closed c = closed_refused c.state-state.result c.refusal.result c.args.handle.now.value
    c.state-state.new.self.value
    c.state-state.ensures.0 c.state-state.ensures.1 c.refusal.ensures.closed

pub returns-clause-closed : goal.returns-clause-closed
returns-clause-closed c = λ none. absurd (let zero = closed c.state-state.result c.args.handle.now.value c.state-state.ensures.0 none in
    omega arith)
