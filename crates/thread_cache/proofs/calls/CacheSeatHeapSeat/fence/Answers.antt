use Rattle.std.proofs.Common.{ap, refl, ◌∙◌, sym}
use Rattle.seat_model.specs.CacheState.{CacheState}
use Rattle.thread_cache.proofs.CallLemmas.{asked_at, between_then, call_stops, counts_then, keeps_own, kept_with, small_counted, small_keeps, small_step, state_is}
use Rattle.thread_cache.proofs.WordCallLemmas.{small_fences}
use Rattle.thread_cache.proofs.calls.CacheSeatHeapSeat.fence.Goals as goal

pub invariant_of-self-inside : goal.invariant_of-self-inside
invariant_of-self-inside g c =
    let ran = ap (λ (s : CacheState). s.view.stopped) (state_is c.self.view_is) ∙ c.in_ok-check_running.ensures.ok in (
      c.fence-answer.ensures.seat,
      (
        ∣ c.recall_soundness-2.ensures ∣₁,
        (
          between_then c.self.inside.seat.view c.fence-answer.new.seat.view c.fence-answer.ensures.drew ran c.self.inside.between,
          (
            counts_then c.self.inside.small_calls c.self.inside.large_calls c.self.inside.refusals c.self.inside.seat.view
                c.fence-answer.new.seat.view (c.fence-answer.ensures.drew.drew ran) c.self.inside.counted,
            tt,
          ),
        ),
      ),
    )

pub returns-clause-unchanged : goal.returns-clause-unchanged
returns-clause-unchanged g c = keeps_own c.args.self.now.state c.self.inside.seat c.fence-answer.new.seat _
    (small_step _ c.args.self.now.state (state_is c.self.view_is) c.self.inside.seat c.fence-answer.new.seat refl refl
    c.recall_soundness-2.ensures c.in_ok-check_running.ensures.ok).call c.fence-answer.ensures.row

pub returns-clause-counted : goal.returns-clause-counted
returns-clause-counted g c = small_counted c.args.self.now.state c.self.inside.seat c.fence-answer.new.seat _
    (small_step _ c.args.self.now.state (state_is c.self.view_is) c.self.inside.seat c.fence-answer.new.seat refl refl
    c.recall_soundness-2.ensures c.in_ok-check_running.ensures.ok) c.fence-answer.ensures.row.view.passes c.fence-answer.ensures.looks

pub returns-clause-kept : goal.returns-clause-kept
returns-clause-kept g c = record {
  heap = kept_with (c.fence-answer.ensures.seat.table ∙ sym c.self.inside.of.table ∙ ap (λ (s : CacheState). s.table) (state_is c.self.view_is))
      (small_keeps c.args.self.now.state c.self.inside.seat c.fence-answer.new.seat _
      (small_step _ c.args.self.now.state (state_is c.self.view_is)
      c.self.inside.seat c.fence-answer.new.seat refl refl c.recall_soundness-2.ensures c.in_ok-check_running.ensures.ok)
      c.fence-answer.ensures.row.view.passes c.fence-answer.ensures.row.view.large);
  asked = asked_at c.self.view_is c.fence-answer.ensures.asked;
}

pub returns-clause-stopped : goal.returns-clause-stopped
returns-clause-stopped g c = call_stops c.args.self.now.state c.self.inside.seat c.fence-answer.new.seat _
    (small_step _ c.args.self.now.state (state_is c.self.view_is) c.self.inside.seat c.fence-answer.new.seat refl refl
    c.recall_soundness-2.ensures c.in_ok-check_running.ensures.ok).call c.fence-answer.ensures.row.view.passes c.fence-answer.result c.fence-answer.ensures.stopped

pub returns-clause-ok : goal.returns-clause-ok
returns-clause-ok g c = small_fences c.args.self.now.state c.self.inside.seat c.fence-answer.new.seat _
    (small_step _ c.args.self.now.state (state_is c.self.view_is) c.self.inside.seat c.fence-answer.new.seat refl refl
    c.recall_soundness-2.ensures c.in_ok-check_running.ensures.ok) c.fence-answer.result c.fence-answer.ensures.fenced
