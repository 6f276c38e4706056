use Rattle.std.proofs.Common.{◌+◌, ap, arith, refl, sym, ◌∙◌}
use Rattle.seat_model.specs.CacheState.{CacheState}
use Rattle.thread_cache.proofs.AllocLemmas.{alloc_costs, alloc_none, alloc_ok, alloc_room, full_cause, full_counts_then, full_step, stop_cause}
use Rattle.thread_cache.proofs.IdleLemmas.{alloc_between, alloc_paid, request_few}
use Rattle.thread_cache.proofs.CallLemmas.{asked_at, kept_with, next_low, refused_own, state_is}
use Rattle.thread_cache.proofs.LargeLemmas.{large_counted, large_counts_then, large_keeps, large_step}
use Rattle.thread_cache.proofs.calls.CacheSeatHeapSeat.alloc.Goals as goal

pub overflow_add-self : goal.overflow_add-self
overflow_add-self g c = let low = next_low c.self.inside.seat.view c.recall_soundness.ensures c.has_a_low_budget.ensures
    (ap (λ (s : CacheState). s.view.stopped) (state_is c.self.view_is) ∙ c.in_ok-check_running.ensures.ok) in
    let few = c.self.inside.counted.0 in omega arith

pub overflow_add-self-in-Some : goal.overflow_add-self-in-Some
overflow_add-self-in-Some g c = let low = next_low c.self.inside.seat.view c.recall_soundness.ensures c.has_a_low_budget.ensures
    (ap (λ (s : CacheState). s.view.stopped) (state_is c.self.view_is) ∙ c.in_ok-check_running.ensures.ok) in
    let few = c.self.inside.counted.0 in let fewer = c.self.inside.counted.1 in omega arith

pub invariant_of-self-inside : goal.invariant_of-self-inside
invariant_of-self-inside g c =
    let ran = ap (λ (s : CacheState). s.view.stopped) (state_is c.self.view_is) ∙ c.in_ok-check_running.ensures.ok in
    let idle = c.self.inside.between ran in (
      c.alloc-answer.ensures.seat,
      (
        ∣ c.recall_soundness-2.ensures ∣₁,
        (
          alloc_between c.args.bytes c.self.inside.seat.view c.alloc-answer.new.seat.view c.recall_soundness.ensures c.alloc-answer.result
              idle.0 idle.1 c.alloc-answer.ensures.answers,
          (
            full_counts_then c.self.inside.small_calls c.self.inside.large_calls c.self.inside.refusals c.self.inside.seat.view
                c.alloc-answer.new.seat.view c.alloc-answer.ensures.drew c.self.inside.counted,
            tt,
          ),
        ),
      ),
    )

pub invariant_of-self-inside-in-None : goal.invariant_of-self-inside-in-None
invariant_of-self-inside-in-None g c =
    let ran = ap (λ (s : CacheState). s.view.stopped) (state_is c.self.view_is) ∙ c.in_ok-check_running.ensures.ok in
    let idle = c.self.inside.between ran in (
      c.alloc-answer.ensures.seat,
      (
        ∣ c.recall_soundness-2.ensures ∣₁,
        (
          alloc_between c.args.bytes c.self.inside.seat.view c.alloc-answer.new.seat.view c.recall_soundness.ensures c.alloc-answer.result
              idle.0 idle.1 c.alloc-answer.ensures.answers,
          (
            large_counts_then c.self.inside.small_calls c.self.inside.large_calls c.self.inside.refusals c.self.inside.seat.view
                c.alloc-answer.new.seat.view c.alloc-answer.ensures.drew c.self.inside.counted,
            tt,
          ),
        ),
      ),
    )

pub returns-in-Some-clause-cause : goal.returns-in-Some-clause-cause
returns-in-Some-clause-cause g c = full_cause c.args.bytes c.args.self.now.state c.self.inside.seat c.alloc-answer.new.seat _
    (full_step _ c.args.self.now.state (state_is c.self.view_is) c.args.bytes c.in-Some.looks c.self.inside.seat c.alloc-answer.new.seat refl
    refl c.recall_soundness-2.ensures c.in_ok-check_running.ensures.ok)
    c.recall_soundness.ensures c.alloc-answer.ensures.drew _ c.in-Some.looks c.alloc-answer.result c.in-Some.ensures.some
    c.alloc-answer.ensures.answers c.alloc-answer.ensures.none (ap (λ (s : CacheState). s.refusals + 1) (state_is c.self.view_is)) refl refl

pub returns-in-Some-clause-none : goal.returns-in-Some-clause-none
returns-in-Some-clause-none g c = alloc_none c.args.bytes c.args.self.now.state c.self.inside.seat c.alloc-answer.new.seat _
    (full_step _ c.args.self.now.state (state_is c.self.view_is) c.args.bytes c.in-Some.looks c.self.inside.seat c.alloc-answer.new.seat refl
    refl c.recall_soundness-2.ensures c.in_ok-check_running.ensures.ok)
    c.recall_soundness.ensures c.alloc-answer.ensures.drew c.alloc-answer.result c.alloc-answer.ensures.answers
    c.alloc-answer.ensures.row.passes c.alloc-answer.ensures.light

pub returns-in-Some-clause-unchanged : goal.returns-in-Some-clause-unchanged
returns-in-Some-clause-unchanged g c = refused_own c.args.self.now.state c.self.inside.seat c.alloc-answer.new.seat _
    (full_step _ c.args.self.now.state (state_is c.self.view_is) c.args.bytes c.in-Some.looks c.self.inside.seat c.alloc-answer.new.seat refl
    refl c.recall_soundness-2.ensures c.in_ok-check_running.ensures.ok).call _ c.alloc-answer.result c.alloc-answer.ensures.none

pub returns-in-Some-clause-counted : goal.returns-in-Some-clause-counted
returns-in-Some-clause-counted g c = large_counted c.args.self.now.state c.self.inside.seat c.alloc-answer.new.seat _
    (full_step _ c.args.self.now.state (state_is c.self.view_is) c.args.bytes c.in-Some.looks c.self.inside.seat c.alloc-answer.new.seat refl
    refl c.recall_soundness-2.ensures c.in_ok-check_running.ensures.ok) c.alloc-answer.ensures.row.passes _ (omega arith)

pub returns-in-Some-clause-kept : goal.returns-in-Some-clause-kept
returns-in-Some-clause-kept g c = record {
  heap = kept_with (c.alloc-answer.ensures.seat.table ∙ sym c.self.inside.of.table ∙ ap (λ (s : CacheState). s.table) (state_is c.self.view_is))
      (large_keeps c.args.self.now.state c.self.inside.seat c.alloc-answer.new.seat _
      (full_step _ c.args.self.now.state (state_is c.self.view_is)
      c.args.bytes c.in-Some.looks c.self.inside.seat c.alloc-answer.new.seat refl refl c.recall_soundness-2.ensures
      c.in_ok-check_running.ensures.ok) c.alloc-answer.ensures.row.passes (request_few c.args.bytes _)
      (alloc_paid c.args.bytes _ c.self.inside.seat c.alloc-answer.new.seat (ap (λ (s : CacheState). s.view.stopped) (state_is c.self.view_is)
      ∙ c.in_ok-check_running.ensures.ok) c.alloc-answer.ensures.row.passes c.alloc-answer.result c.alloc-answer.ensures.answers
      c.alloc-answer.ensures.light c.alloc-answer.ensures.none));
  asked = asked_at c.self.view_is c.alloc-answer.ensures.asked;
}

pub returns-in-None-clause-unchanged : goal.returns-in-None-clause-unchanged
returns-in-None-clause-unchanged g c = refused_own c.args.self.now.state c.self.inside.seat c.alloc-answer.new.seat _
    (large_step _ c.args.self.now.state (state_is c.self.view_is) c.self.inside.seat c.alloc-answer.new.seat refl refl
    c.recall_soundness-2.ensures c.in_ok-check_running.ensures.ok).call _ c.alloc-answer.result c.alloc-answer.ensures.none

pub returns-in-None-clause-counted : goal.returns-in-None-clause-counted
returns-in-None-clause-counted g c = large_counted c.args.self.now.state c.self.inside.seat c.alloc-answer.new.seat _
    (large_step _ c.args.self.now.state (state_is c.self.view_is) c.self.inside.seat c.alloc-answer.new.seat refl refl
    c.recall_soundness-2.ensures c.in_ok-check_running.ensures.ok) c.alloc-answer.ensures.row.passes _ (omega arith)

pub returns-in-None-clause-kept : goal.returns-in-None-clause-kept
returns-in-None-clause-kept g c = record {
  heap = kept_with (c.alloc-answer.ensures.seat.table ∙ sym c.self.inside.of.table ∙ ap (λ (s : CacheState). s.table) (state_is c.self.view_is))
      (large_keeps c.args.self.now.state c.self.inside.seat c.alloc-answer.new.seat _
      (large_step _ c.args.self.now.state (state_is c.self.view_is)
      c.self.inside.seat c.alloc-answer.new.seat refl refl c.recall_soundness-2.ensures c.in_ok-check_running.ensures.ok)
      c.alloc-answer.ensures.row.passes (request_few c.args.bytes _)
      (alloc_paid c.args.bytes _ c.self.inside.seat c.alloc-answer.new.seat (ap (λ (s : CacheState). s.view.stopped) (state_is c.self.view_is)
      ∙ c.in_ok-check_running.ensures.ok) c.alloc-answer.ensures.row.passes c.alloc-answer.result c.alloc-answer.ensures.answers
      c.alloc-answer.ensures.light c.alloc-answer.ensures.none));
  asked = asked_at c.self.view_is c.alloc-answer.ensures.asked;
}

pub returns-in-None-clause-ok : goal.returns-in-None-clause-ok
returns-in-None-clause-ok g c = alloc_ok c.args.bytes c.args.self.now.state c.self.inside.seat c.alloc-answer.new.seat _
    (large_step _ c.args.self.now.state (state_is c.self.view_is) c.self.inside.seat c.alloc-answer.new.seat refl refl
    c.recall_soundness-2.ensures c.in_ok-check_running.ensures.ok)
    c.recall_soundness.ensures c.alloc-answer.ensures.drew c.alloc-answer.result c.alloc-answer.ensures.answers c.alloc-answer.ensures.row
    (record {
      count = ap (λ (s : CacheState). s.refusals) (state_is c.self.view_is);
      bytes = ap (λ (s : CacheState). s.refused_bytes) (state_is c.self.view_is);
      looks = ap (λ (s : CacheState). s.refused_looks) (state_is c.self.view_is);
    })

pub returns-in-None-clause-room : goal.returns-in-None-clause-room
returns-in-None-clause-room g c = alloc_room c.args.bytes c.args.self.now.state c.self.inside.seat c.alloc-answer.new.seat _
    (large_step _ c.args.self.now.state (state_is c.self.view_is) c.self.inside.seat c.alloc-answer.new.seat refl refl
    c.recall_soundness-2.ensures c.in_ok-check_running.ensures.ok)
    c.recall_soundness.ensures c.alloc-answer.ensures.drew c.alloc-answer.result c.alloc-answer.ensures.answers
    c.alloc-answer.ensures.row.passes c.alloc-answer.ensures.light c.alloc-answer.ensures.order c.alloc-answer.ensures.cached

pub returns-in-None-clause-none : goal.returns-in-None-clause-none
returns-in-None-clause-none g c = alloc_none c.args.bytes c.args.self.now.state c.self.inside.seat c.alloc-answer.new.seat _
    (large_step _ c.args.self.now.state (state_is c.self.view_is) c.self.inside.seat c.alloc-answer.new.seat refl refl
    c.recall_soundness-2.ensures c.in_ok-check_running.ensures.ok)
    c.recall_soundness.ensures c.alloc-answer.ensures.drew c.alloc-answer.result c.alloc-answer.ensures.answers
    c.alloc-answer.ensures.row.passes c.alloc-answer.ensures.light

pub returns-in-None-clause-cause : goal.returns-in-None-clause-cause
returns-in-None-clause-cause g c = stop_cause c.args.bytes c.args.self.now.state c.self.inside.seat c.alloc-answer.new.seat _
    (large_step _ c.args.self.now.state (state_is c.self.view_is) c.self.inside.seat c.alloc-answer.new.seat refl refl
    c.recall_soundness-2.ensures c.in_ok-check_running.ensures.ok) c.recall_soundness.ensures c.alloc-answer.ensures.drew c.alloc-answer.result
    (c.in-None.ensures.none refl) c.alloc-answer.ensures.answers
    (c.alloc-answer.ensures.row.passes.setup ∙ ap (λ (s : CacheState). s.view.setup) (state_is c.self.view_is))
    (record {
      count = ap (λ (s : CacheState). s.refusals) (state_is c.self.view_is);
      bytes = ap (λ (s : CacheState). s.refused_bytes) (state_is c.self.view_is);
      looks = ap (λ (s : CacheState). s.refused_looks) (state_is c.self.view_is);
    })

pub returns-in-Some-clause-costs : goal.returns-in-Some-clause-costs
returns-in-Some-clause-costs g c = alloc_costs c.args.bytes c.args.self.now.state c.self.inside.seat c.alloc-answer.new.seat _
    (full_step _ c.args.self.now.state (state_is c.self.view_is) c.args.bytes c.in-Some.looks c.self.inside.seat c.alloc-answer.new.seat refl
    refl c.recall_soundness-2.ensures c.in_ok-check_running.ensures.ok)
    c.recall_soundness.ensures c.alloc-answer.ensures.drew c.alloc-answer.ensures.row.passes

pub returns-in-None-clause-costs : goal.returns-in-None-clause-costs
returns-in-None-clause-costs g c = alloc_costs c.args.bytes c.args.self.now.state c.self.inside.seat c.alloc-answer.new.seat _
    (large_step _ c.args.self.now.state (state_is c.self.view_is) c.self.inside.seat c.alloc-answer.new.seat refl refl
    c.recall_soundness-2.ensures c.in_ok-check_running.ensures.ok)
    c.recall_soundness.ensures c.alloc-answer.ensures.drew c.alloc-answer.ensures.row.passes
