use Rattle.std.proofs.Common.{ap, ◌∙◌, refl, arith}
use Rattle.std.proofs.lemmas.Result.{on_ok_weaker}
use Rattle.block_heap.specs.MediumView.{medium_view}
use Rattle.block_heap.specs.Parts.{parts_of}
use Rattle.block_heap.specs.SeqState.{SeqState}
use Rattle.block_heap.proofs.SeatLemmas.{few_drawn, small_lasts, stop_above, quiet_heap, fence_ok}
use Rattle.block_heap.proofs.FixedLemmas.{fixed_by}
use Rattle.block_heap.proofs.CountedLemmas.{small_counted}
use Rattle.block_heap.proofs.seq_seat.SeqHeapHeapSeat.fence.Goals as goal

pub invariant_of-self-inside : goal.invariant_of-self-inside
invariant_of-self-inside g c = (
  ∣ small_lasts (parts_of c.self.inside.arena) (medium_view c.fence-answer.new.self)
      (λ _. ⊥) c.self.inside.stopped c.stop_of-self-inside.result c.self.invariant.lasts c.fence-answer.ensures.unchanged (λ word t. absurd t)
      (stop_above c.fence-answer.result c.stop_of-self-inside.result 1 (medium_view c.self.inside.arena.medium)
      (medium_view c.fence-answer.new.self) c.stop_of-self-inside.ensures.ok c.stop_of-self-inside.ensures.stopped
      c.fence-answer.ensures.stopped) ∣₁,
  tt,
)

pub invariant_of-self : goal.invariant_of-self
invariant_of-self g c =
    quiet_heap c.fence-answer.result _ (medium_view c.fence-answer.new.self) c.stop_of-self-inside.result _ c.self.invariant
    (ap (λ (s : SeqState). s.stopped) c.self.view_is ∙ c.in_ok-check_running.ensures.ok)
    (on_ok_weaker c.fence-answer.result (λ f. f.runs_within) c.fence-answer.ensures.ok)
    (on_ok_weaker c.fence-answer.result (λ f. f.volatile) c.fence-answer.ensures.ok)
    c.fence-answer.ensures.stopped c.fence-answer.ensures.unchanged c.stop_of-self-inside.ensures.ok c.stop_of-self-inside.ensures.stopped

pub returns-clause-ok : goal.returns-clause-ok
returns-clause-ok g c =
    fence_ok c.fence-answer.result _ c.args.self.now (medium_view c.fence-answer.new.self)
    c.stop_of-self-inside.result c.self.view_is c.in_ok-check_running.ensures.ok
    c.stop_of-self-inside.ensures.ok c.fence-answer.ensures.ok

pub returns-clause-kept : goal.returns-clause-kept
returns-clause-kept g c =
    fixed_by (λ _. ⊥) _ c.args.self.now _ c.self.view_is refl c.fence-answer.ensures.unchanged (λ word t. absurd t) refl
    (let few = few_drawn c.fence-answer.result 1 _ _ (on_ok_weaker c.fence-answer.result (λ f. f.runs_within) c.fence-answer.ensures.ok)
    c.fence-answer.ensures.stopped in omega arith)

pub returns-clause-counted : goal.returns-clause-counted
returns-clause-counted g c =
    small_counted _ c.args.self.now _ c.stop_of-self-inside.result
    (λ _. ⊥) c.self.view_is c.in_ok-check_running.ensures.ok c.fence-answer.ensures.unchanged (returns-clause-kept g c)
