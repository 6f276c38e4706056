use Rattle.std.proofs.Common.{◌<◌, ap, ◌∙◌, subst, sym, IfOk, refl, arith}
use Rattle.block_heap.specs.MediumView.{medium_view}
use Rattle.line_memory.specs.View.{word_count}
use Rattle.block_heap.specs.Medium.{IsLoaded}
use Rattle.block_heap.specs.Parts.{parts_of}
use Rattle.heap_seat.specs.View.{word_of}
use Rattle.heap_seat.specs.Words.{IsOwnSpot}
use Rattle.block_heap.specs.SeqState.{SeqState, seat_of}
use Rattle.block_heap.proofs.SeatLemmas.{few_drawn, small_lasts, stop_above, quiet_heap, own_short, own_within, load_ok, loaded_runs_within, loaded_same}
use Rattle.block_heap.proofs.FixedLemmas.{fixed_by}
use Rattle.block_heap.proofs.CountedLemmas.{small_counted}
use Rattle.block_heap.proofs.seq_seat.SeqHeapHeapSeat.load.Goals as goal

pub word-requires : goal.word-requires
word-requires g c = own_short _ c.args.s c.self.invariant (subst (λ (s : SeqState). IsOwnSpot (seat_of s) c.args.s) (sym c.self.view_is) c.requires)

pub load-answer-requires-clause-within : goal.load-answer-requires-clause-within
load-answer-requires-clause-within g c =
    subst (λ word. word < word_count (medium_view c.self.inside.arena.medium)) (sym c.word.ensures)
    (own_within _ c.args.s c.self.invariant (ap (λ (s : SeqState). s.stopped) c.self.view_is ∙ c.in_ok-check_running.ensures.ok)
    (subst (λ (s : SeqState). IsOwnSpot (seat_of s) c.args.s) (sym c.self.view_is) c.requires))

pub invariant_of-self-inside : goal.invariant_of-self-inside
invariant_of-self-inside g c = (
  ∣ small_lasts (parts_of c.self.inside.arena) (medium_view c.load-answer.new.self)
      (λ _. ⊥) c.self.inside.stopped c.stop_of-self-inside.result c.self.invariant.lasts c.load-answer.ensures.unchanged (λ word t. absurd t)
      (stop_above c.load-answer.result c.stop_of-self-inside.result 1 (medium_view c.self.inside.arena.medium)
      (medium_view c.load-answer.new.self) c.stop_of-self-inside.ensures.ok c.stop_of-self-inside.ensures.stopped c.load-answer.ensures.stopped) ∣₁,
  tt,
)

pub invariant_of-self : goal.invariant_of-self
invariant_of-self g c =
    quiet_heap c.load-answer.result _ (medium_view c.load-answer.new.self) c.stop_of-self-inside.result _ c.self.invariant
    (ap (λ (s : SeqState). s.stopped) c.self.view_is ∙ c.in_ok-check_running.ensures.ok)
    (loaded_runs_within c.load-answer.result _ _ _ c.load-answer.ensures.ok) (loaded_same c.load-answer.result _ _ _ c.load-answer.ensures.ok)
    c.load-answer.ensures.stopped c.load-answer.ensures.unchanged c.stop_of-self-inside.ensures.ok c.stop_of-self-inside.ensures.stopped

pub returns-clause-ok : goal.returns-clause-ok
returns-clause-ok g c =
    load_ok c.load-answer.result _ c.args.self.now (medium_view c.load-answer.new.self) c.stop_of-self-inside.result
    (word_of c.args.s) c.self.invariant c.self.view_is c.in_ok-check_running.ensures.ok
    c.stop_of-self-inside.ensures.ok (subst (λ word. IfOk c.load-answer.result
    (λ value. IsLoaded word value (medium_view c.self.inside.arena.medium) (medium_view c.load-answer.new.self)))
    c.word.ensures c.load-answer.ensures.ok)

pub returns-clause-kept : goal.returns-clause-kept
returns-clause-kept g c =
    fixed_by (λ _. ⊥) _ c.args.self.now _ c.self.view_is refl c.load-answer.ensures.unchanged (λ word t. absurd t) refl
    (let few = few_drawn c.load-answer.result 1 _ _ (loaded_runs_within c.load-answer.result _ _ _ c.load-answer.ensures.ok)
    c.load-answer.ensures.stopped in omega arith)

pub returns-clause-counted : goal.returns-clause-counted
returns-clause-counted g c =
    small_counted _ c.args.self.now _ c.stop_of-self-inside.result
    (λ _. ⊥) c.self.view_is c.in_ok-check_running.ensures.ok c.load-answer.ensures.unchanged (returns-clause-kept g c)
