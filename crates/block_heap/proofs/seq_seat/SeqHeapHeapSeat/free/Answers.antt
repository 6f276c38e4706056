use Rattle.block_heap.proofs.SeatLemmas.{few_drawn}
use Rattle.std.proofs.Common.{OnOk, arith, ap, subst, ◌∙◌}
use Rattle.block_heap.specs.Parts.{parts_of}
use Rattle.block_heap.specs.Returns.{ComesBack}
use Rattle.block_heap.specs.SeqState.{SeqState}
use Rattle.block_heap.proofs.RequestLemmas.{large_heap}
use Rattle.block_heap.proofs.FreeCallLemmas.{free_lasts, free_runs, may_free, frees}
use Rattle.block_heap.proofs.FixedLemmas.{fixed_free}
use Rattle.block_heap.specs.Draws.{most_free_draws}
use Rattle.block_heap.proofs.CountedLemmas.{large_counted}
use Rattle.block_heap.proofs.seq_seat.SeqHeapHeapSeat.free.Goals as goal

pub invariant_of-self-inside : goal.invariant_of-self-inside
invariant_of-self-inside g c = (
  ∣ free_lasts c.free-answer.result (parts_of c.self.inside.arena)
      (parts_of c.free-answer.new.self) c.args.b c.self.inside.stopped c.stop_of-self-inside.result c.self.invariant.lasts
      c.free-answer.ensures.freed c.free-answer.ensures.leaves_held c.stop_of-self-inside.ensures.ok c.stop_of-self-inside.ensures.stopped
      c.free-answer.ensures.stopped ∣₁,
  tt,
)

pub invariant_of-self : goal.invariant_of-self
invariant_of-self g c =
    large_heap c.free-answer.result _ (parts_of c.free-answer.new.self) most_free_draws c.stop_of-self-inside.result _ c.self.invariant
    (free_lasts c.free-answer.result (parts_of c.self.inside.arena)
    (parts_of c.free-answer.new.self) c.args.b c.self.inside.stopped c.stop_of-self-inside.result c.self.invariant.lasts
    c.free-answer.ensures.freed c.free-answer.ensures.leaves_held c.stop_of-self-inside.ensures.ok c.stop_of-self-inside.ensures.stopped
    c.free-answer.ensures.stopped)
    (free_runs c.free-answer.result (parts_of c.self.inside.arena) (parts_of c.free-answer.new.self)
    (c.self.invariant.running (ap (λ (s : SeqState). s.stopped) c.self.view_is ∙ c.in_ok-check_running.ensures.ok)).2
    c.free-answer.ensures.running c.free-answer.ensures.short c.free-answer.ensures.accounted)
    c.free-answer.ensures.runs_within c.free-answer.ensures.stopped c.stop_of-self-inside.ensures.stopped

pub returns-clause-ok : goal.returns-clause-ok
returns-clause-ok g c =
    frees _ (parts_of c.free-answer.new.self) c.stop_of-self-inside.result c.args.b c.self.invariant c.free-answer.ensures.freed
    c.free-answer.ensures.leaves_held
    c.free-answer.result c.args.self.now most_free_draws c.self.view_is c.in_ok-check_running.ensures.ok c.stop_of-self-inside.ensures.ok
    c.free-answer.ensures.runs_within

pub returns-clause-others : goal.returns-clause-others
returns-clause-others g c =
    may_free _ (parts_of c.free-answer.new.self) c.stop_of-self-inside.result c.args.b c.self.invariant c.free-answer.ensures.freed
    c.free-answer.ensures.leaves_held c.args.self.now c.self.view_is

pub returns-clause-kept : goal.returns-clause-kept
returns-clause-kept g c = fixed_free _ c.args.self.now _ c.args.b c.self.invariant c.self.view_is c.free-answer.ensures.freed
    c.free-answer.ensures.leaves_held
    (let few = few_drawn c.free-answer.result most_free_draws _ _ c.free-answer.ensures.runs_within c.free-answer.ensures.stopped in omega arith)

pub returns-clause-given : goal.returns-clause-given
returns-clause-given g c =
    subst (λ (s : SeqState). OnOk c.free-answer.result (ComesBack c.args.b s.parts (parts_of c.free-answer.new.self)))
    c.self.view_is c.free-answer.ensures.order

pub returns-clause-counted : goal.returns-clause-counted
returns-clause-counted g c =
    large_counted _ c.args.self.now _ c.stop_of-self-inside.result _ 0 c.self.view_is c.in_ok-check_running.ensures.ok c.free-answer.ensures.leaves_held
    (let same = c.free-answer.ensures.taken in omega arith) (returns-clause-kept g c)
