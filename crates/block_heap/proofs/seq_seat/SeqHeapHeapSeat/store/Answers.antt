use Rattle.block_heap.proofs.SeatLemmas.{few_drawn}
use Rattle.std.proofs.lemmas.Result.{on_ok_weaker}
use Rattle.std.proofs.Common.{arith, ◌≡◌, ◌<◌, refl, ap, ◌∙◌, subst, sym, OnOk}
use Rattle.block_heap.specs.MediumView.{medium_view}
use Rattle.line_memory.specs.View.{word_count}
use Rattle.line_memory.specs.Crash.{MayLeaveStore as MayStoreWord}
use Rattle.block_heap.specs.Medium.{IsStored, StoresOnly}
use Rattle.block_heap.specs.Parts.{parts_of, held_in}
use Rattle.heap_seat.specs.View.{word_of}
use Rattle.heap_seat.specs.Words.{IsOwn, IsOwnSpot}
use Rattle.block_heap.specs.SeqState.{SeqState, seat_of, all_roots}
use Rattle.block_heap.proofs.SeatLemmas.{small_lasts, stop_above, own_short, at_within, own_at, store_ok}
use Rattle.block_heap.proofs.StoreLemmas.{store_heap, store_keeps, store_refused}
use Rattle.block_heap.proofs.FixedLemmas.{fixed_store}
use Rattle.block_heap.proofs.CountedLemmas.{small_counted}
use Rattle.block_heap.proofs.seq_seat.SeqHeapHeapSeat.store.Goals as goal

pub word-requires : goal.word-requires
word-requires g c = own_short _ c.args.s c.self.invariant (subst (λ (s : SeqState). IsOwnSpot (seat_of s) c.args.s) (sym c.self.view_is) c.requires)

pub store-answer-requires-clause-within : goal.store-answer-requires-clause-within
store-answer-requires-clause-within g c =
    at_within _ c.args.self.now c.args.s c.word.result c.self.invariant c.self.view_is c.word.ensures c.in_ok-check_running.ensures.ok c.requires

pub invariant_of-self-inside : goal.invariant_of-self-inside
invariant_of-self-inside g c = (
  ∣ small_lasts (parts_of c.self.inside.arena) (medium_view c.store-answer.new.self)
      (λ other. other ≡ c.word.result) c.self.inside.stopped c.stop_of-self-inside.result c.self.invariant.lasts c.store-answer.ensures.others
      (λ word e. subst (IsOwn (held_in (parts_of c.self.inside.arena)) all_roots) (sym e)
      (own_at _ c.args.self.now c.args.s c.word.result c.self.invariant c.self.view_is c.word.ensures c.requires))
      (stop_above c.store-answer.result c.stop_of-self-inside.result 1 (medium_view c.self.inside.arena.medium)
      (medium_view c.store-answer.new.self) c.stop_of-self-inside.ensures.ok c.stop_of-self-inside.ensures.stopped
      c.store-answer.ensures.stopped) ∣₁,
  tt,
)

pub invariant_of-self : goal.invariant_of-self
invariant_of-self g c =
    store_heap c.store-answer.result _ (medium_view c.store-answer.new.self)
    c.stop_of-self-inside.result _ c.word.result c.args.value c.self.invariant (ap (λ (s : SeqState). s.stopped) c.self.view_is
    ∙ c.in_ok-check_running.ensures.ok)
    (own_at _ c.args.self.now c.args.s c.word.result c.self.invariant c.self.view_is c.word.ensures c.requires)
    (at_within _ c.args.self.now c.args.s c.word.result c.self.invariant c.self.view_is c.word.ensures c.in_ok-check_running.ensures.ok c.requires)
    c.store-answer.ensures.ok c.store-answer.ensures.stopped c.store-answer.ensures.others c.stop_of-self-inside.ensures.ok
    c.stop_of-self-inside.ensures.stopped

pub returns-clause-ok : goal.returns-clause-ok
returns-clause-ok g c =
    store_ok c.store-answer.result _ c.args.self.now (medium_view c.store-answer.new.self) c.stop_of-self-inside.result
    (word_of c.args.s) c.args.value c.self.invariant c.self.view_is
    (subst (λ word. word < word_count (medium_view c.self.inside.arena.medium)) c.word.ensures
    (at_within _ c.args.self.now c.args.s c.word.result c.self.invariant c.self.view_is c.word.ensures c.in_ok-check_running.ensures.ok
    c.requires)) c.in_ok-check_running.ensures.ok
    c.stop_of-self-inside.ensures.ok (subst (λ word. OnOk c.store-answer.result
    (IsStored word c.args.value (medium_view c.self.inside.arena.medium) (medium_view c.store-answer.new.self)))
    c.word.ensures c.store-answer.ensures.ok)

pub returns-clause-unchanged : goal.returns-clause-unchanged
returns-clause-unchanged g c =
    store_refused c.store-answer.result _ c.args.self.now (medium_view c.store-answer.new.self)
    c.stop_of-self-inside.result c.self.view_is c.store-answer.ensures.refused

pub returns-clause-crash : goal.returns-clause-crash
returns-clause-crash g c =
    store_keeps _ c.args.self.now (medium_view c.store-answer.new.self) c.stop_of-self-inside.result (word_of c.args.s) c.args.value c.self.view_is
    (subst (λ word. StoresOnly (λ other. other ≡ word) (medium_view c.self.inside.arena.medium) (medium_view c.store-answer.new.self))
    c.word.ensures c.store-answer.ensures.others)
    (subst (λ word. MayStoreWord word c.args.value (medium_view c.self.inside.arena.medium) (medium_view c.store-answer.new.self))
    c.word.ensures c.store-answer.ensures.crash)

pub returns-clause-kept : goal.returns-clause-kept
returns-clause-kept g c =
    fixed_store _ c.args.self.now _ c.word.result c.self.invariant c.self.view_is refl
    (own_at _ c.args.self.now c.args.s c.word.result c.self.invariant c.self.view_is c.word.ensures c.requires) c.store-answer.ensures.others
    refl (let few = few_drawn c.store-answer.result 1 _ _ (on_ok_weaker c.store-answer.result (λ f. f.runs_within) c.store-answer.ensures.ok)
    c.store-answer.ensures.stopped in omega arith)

pub returns-clause-counted : goal.returns-clause-counted
returns-clause-counted g c =
    small_counted _ c.args.self.now _ c.stop_of-self-inside.result
    (λ other. other ≡ c.word.result) c.self.view_is c.in_ok-check_running.ensures.ok c.store-answer.ensures.others (returns-clause-kept g c)
