use Rattle.std.proofs.Common.{ap, arith, refl, sym, ◌∙◌}
use Rattle.seat_model.specs.CacheState.{CacheState}
use Rattle.thread_cache.proofs.CallLemmas.{asked_at, call_stops, kept_with, next_low, state_is}
use Rattle.thread_cache.proofs.FreeLemmas.{free_between, free_costs, free_few, free_ok, free_others, free_paid, free_put, held_block}
use Rattle.thread_cache.proofs.LargeLemmas.{large_counted, large_counts_then, large_keeps, large_step}
use Rattle.thread_cache.proofs.calls.CacheSeatHeapSeat.free.Goals as goal

pub free-answer-requires-clause-held : goal.free-answer-requires-clause-held
free-answer-requires-clause-held g c = held_block c.args.self.now.state c.self.inside.seat c.recall_soundness.ensures
    (ap (λ (s : CacheState). s.view) (state_is c.self.view_is)) c.args.b c.requires

pub overflow_add-self : goal.overflow_add-self
overflow_add-self g c = let low = next_low c.self.inside.seat.view c.recall_soundness.ensures c.has_a_low_budget.ensures
    (ap (λ (s : CacheState). s.view.stopped) (state_is c.self.view_is) ∙ c.in_ok-check_running.ensures.ok) in
    let few = c.self.inside.counted.0 in omega arith

pub invariant_of-self-inside : goal.invariant_of-self-inside
invariant_of-self-inside g c =
    let ran = ap (λ (s : CacheState). s.view.stopped) (state_is c.self.view_is) ∙ c.in_ok-check_running.ensures.ok in
    let idle = c.self.inside.between ran in (
      c.free-answer.ensures.seat,
      (
        ∣ c.recall_soundness-2.ensures ∣₁,
        (
          free_between c.args.b c.self.inside.seat.view c.free-answer.new.seat.view c.recall_soundness.ensures c.free-answer.result idle.0
              idle.1 c.free-answer.ensures.freed c.free-answer.ensures.stopped,
          (
            large_counts_then c.self.inside.small_calls c.self.inside.large_calls c.self.inside.refusals c.self.inside.seat.view
                c.free-answer.new.seat.view c.free-answer.ensures.drew c.self.inside.counted,
            tt,
          ),
        ),
      ),
    )

pub returns-clause-ok : goal.returns-clause-ok
returns-clause-ok g c = free_ok c.args.b c.args.self.now.state c.self.inside.seat c.free-answer.new.seat _
    (large_step _ c.args.self.now.state (state_is c.self.view_is) c.self.inside.seat c.free-answer.new.seat refl refl
    c.recall_soundness-2.ensures c.in_ok-check_running.ensures.ok)
    c.recall_soundness.ensures c.free-answer.ensures.drew c.free-answer.ensures.row
    (record {
      count = ap (λ (s : CacheState). s.refusals) (state_is c.self.view_is);
      bytes = ap (λ (s : CacheState). s.refused_bytes) (state_is c.self.view_is);
      looks = ap (λ (s : CacheState). s.refused_looks) (state_is c.self.view_is);
    }) c.free-answer.result c.free-answer.ensures.freed

pub returns-clause-given : goal.returns-clause-given
returns-clause-given g c = free_put c.args.b c.args.self.now.state c.self.inside.seat c.free-answer.new.seat _
    (large_step _ c.args.self.now.state (state_is c.self.view_is) c.self.inside.seat c.free-answer.new.seat refl refl
    c.recall_soundness-2.ensures c.in_ok-check_running.ensures.ok)
    c.recall_soundness.ensures c.free-answer.ensures.drew c.free-answer.ensures.row
    (record {
      count = ap (λ (s : CacheState). s.refusals) (state_is c.self.view_is);
      bytes = ap (λ (s : CacheState). s.refused_bytes) (state_is c.self.view_is);
      looks = ap (λ (s : CacheState). s.refused_looks) (state_is c.self.view_is);
    })
    refl c.free-answer.result c.free-answer.ensures.freed c.free-answer.ensures.light

pub returns-clause-others : goal.returns-clause-others
returns-clause-others g c = free_others c.args.b c.args.self.now.state c.self.inside.seat c.free-answer.new.seat _
    (large_step _ c.args.self.now.state (state_is c.self.view_is) c.self.inside.seat c.free-answer.new.seat refl refl
    c.recall_soundness-2.ensures c.in_ok-check_running.ensures.ok)
    c.recall_soundness.ensures c.free-answer.ensures.drew c.free-answer.ensures.row
    (record {
      count = ap (λ (s : CacheState). s.refusals) (state_is c.self.view_is);
      bytes = ap (λ (s : CacheState). s.refused_bytes) (state_is c.self.view_is);
      looks = ap (λ (s : CacheState). s.refused_looks) (state_is c.self.view_is);
    }) c.free-answer.ensures.may

pub returns-clause-stopped : goal.returns-clause-stopped
returns-clause-stopped g c = call_stops c.args.self.now.state c.self.inside.seat c.free-answer.new.seat _
    (large_step _ c.args.self.now.state (state_is c.self.view_is) c.self.inside.seat c.free-answer.new.seat refl refl
    c.recall_soundness-2.ensures c.in_ok-check_running.ensures.ok).call c.free-answer.ensures.row.passes c.free-answer.result c.free-answer.ensures.stopped

pub returns-clause-counted : goal.returns-clause-counted
returns-clause-counted g c = large_counted c.args.self.now.state c.self.inside.seat c.free-answer.new.seat _
    (large_step _ c.args.self.now.state (state_is c.self.view_is) c.self.inside.seat c.free-answer.new.seat refl refl
    c.recall_soundness-2.ensures c.in_ok-check_running.ensures.ok) c.free-answer.ensures.row.passes 0 (omega arith)

pub returns-clause-kept : goal.returns-clause-kept
returns-clause-kept g c = record {
  heap = kept_with (c.free-answer.ensures.seat.table ∙ sym c.self.inside.of.table ∙ ap (λ (s : CacheState). s.table) (state_is c.self.view_is))
      (large_keeps c.args.self.now.state c.self.inside.seat c.free-answer.new.seat _
      (large_step _ c.args.self.now.state (state_is c.self.view_is)
      c.self.inside.seat c.free-answer.new.seat refl refl c.recall_soundness-2.ensures c.in_ok-check_running.ensures.ok)
      c.free-answer.ensures.row.passes free_few
      (free_paid c.args.b c.self.inside.seat c.free-answer.new.seat (ap (λ (s : CacheState). s.view.stopped) (state_is c.self.view_is)
      ∙ c.in_ok-check_running.ensures.ok) c.free-answer.ensures.row.passes c.free-answer.result c.free-answer.ensures.freed
      c.free-answer.ensures.may c.free-answer.ensures.stopped c.free-answer.ensures.light));
  asked = asked_at c.self.view_is c.free-answer.ensures.asked;
}

pub returns-clause-costs : goal.returns-clause-costs
returns-clause-costs g c = free_costs c.args.b c.args.self.now.state c.self.inside.seat c.free-answer.new.seat _
    (large_step _ c.args.self.now.state (state_is c.self.view_is) c.self.inside.seat c.free-answer.new.seat refl refl
    c.recall_soundness-2.ensures c.in_ok-check_running.ensures.ok)
    c.recall_soundness.ensures c.free-answer.ensures.drew c.free-answer.ensures.row
    (record {
      count = ap (λ (s : CacheState). s.refusals) (state_is c.self.view_is);
      bytes = ap (λ (s : CacheState). s.refused_bytes) (state_is c.self.view_is);
      looks = ap (λ (s : CacheState). s.refused_looks) (state_is c.self.view_is);
    }) refl
