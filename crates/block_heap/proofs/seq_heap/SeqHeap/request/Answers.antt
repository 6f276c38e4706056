use Rattle.std.proofs.Common.{ap, subst, ◌∙◌, IfOk, arith}
use Rattle.block_heap.proofs.SeatLemmas.{few_drawn}
use Rattle.block_heap.specs.Order.{ServesInOrder}
use Rattle.block_heap.specs.Parts.{parts_of}
use Rattle.block_heap.specs.SeqState.{SeqState}
use Rattle.block_heap.specs.Serving.{DrainsAs}
use Rattle.block_heap.proofs.RequestLemmas.{request_lasts, request_runs, request_words, large_heap}
use Rattle.block_heap.proofs.FixedLemmas.{fixed_request}
use Rattle.block_heap.specs.Draws.{most_small_draws}
use Rattle.heap_model.specs.Sizes.{span_of}
use Rattle.block_heap.proofs.CountedLemmas.{large_counted}
use Rattle.block_heap.proofs.seq_heap.SeqHeap.request.Goals as goal

pub invariant_of-self-inside : goal.invariant_of-self-inside
invariant_of-self-inside g c = (
  ∣ request_lasts c.alloc-answer.result (parts_of c.self.inside.arena)
      (parts_of c.alloc-answer.new.self) c.args.asked.bytes c.self.inside.stopped c.stop_of-self-inside.result c.self.invariant.lasts
      c.alloc-answer.ensures.leaves_held c.alloc-answer.ensures.ok c.alloc-answer.ensures.held c.stop_of-self-inside.ensures.ok
      c.stop_of-self-inside.ensures.stopped c.alloc-answer.ensures.stopped ∣₁,
  tt,
)

pub invariant_of-self : goal.invariant_of-self
invariant_of-self g c =
    large_heap c.alloc-answer.result _ (parts_of c.alloc-answer.new.self) most_small_draws c.stop_of-self-inside.result _ c.self.invariant
    (request_lasts c.alloc-answer.result (parts_of c.self.inside.arena)
    (parts_of c.alloc-answer.new.self) c.args.asked.bytes c.self.inside.stopped c.stop_of-self-inside.result c.self.invariant.lasts
    c.alloc-answer.ensures.leaves_held c.alloc-answer.ensures.ok c.alloc-answer.ensures.held c.stop_of-self-inside.ensures.ok
    c.stop_of-self-inside.ensures.stopped c.alloc-answer.ensures.stopped)
    (request_runs c.alloc-answer.result c.args.asked.bytes _ _ (c.self.invariant.running (ap (λ (s : SeqState). s.stopped) c.self.view_is
    ∙ c.in_ok-check_running.ensures.ok)).2
    c.alloc-answer.ensures.ok) c.alloc-answer.ensures.runs_within c.alloc-answer.ensures.stopped c.stop_of-self-inside.ensures.stopped

pub returns-clause-drains : goal.returns-clause-drains
returns-clause-drains g c = λ class is at.
    subst (λ (s : SeqState). IfOk c.alloc-answer.result (λ answer. DrainsAs class answer s.parts (parts_of c.alloc-answer.new.self)))
    c.self.view_is (c.alloc-answer.ensures.drains class is at)

pub returns-clause-words : goal.returns-clause-words
returns-clause-words g c = request_words _ c.args.self.now (parts_of c.alloc-answer.new.self)
    c.stop_of-self-inside.result c.self.invariant c.self.view_is c.alloc-answer.ensures.leaves_held

pub returns-clause-kept : goal.returns-clause-kept
returns-clause-kept g c = fixed_request _ c.args.self.now _ c.self.invariant c.self.view_is c.alloc-answer.ensures.leaves_held
    (let few = few_drawn c.alloc-answer.result most_small_draws _ _ c.alloc-answer.ensures.runs_within c.alloc-answer.ensures.stopped in omega arith)

pub returns-clause-order : goal.returns-clause-order
returns-clause-order g c = λ class least.
    subst (λ (s : SeqState). IfOk c.alloc-answer.result (λ answer. ServesInOrder class answer s.parts (parts_of c.alloc-answer.new.self)))
    c.self.view_is (c.alloc-answer.ensures.order class least)

pub returns-clause-counted : goal.returns-clause-counted
returns-clause-counted g c =
    large_counted _ c.args.self.now _ c.stop_of-self-inside.result _
    (span_of c.args.asked.bytes) c.self.view_is c.in_ok-check_running.ensures.ok c.alloc-answer.ensures.leaves_held
    c.alloc-answer.ensures.few (returns-clause-kept g c)
