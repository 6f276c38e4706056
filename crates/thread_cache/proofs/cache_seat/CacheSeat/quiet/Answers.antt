use Rattle.std.proofs.Common.{◌<◌, OnOk, ap, refl, arith, ◌∙◌, sym, subst}
use Rattle.core_model.specs.View.{View}
use Rattle.cache_flush.specs.All.{HasFlushedAll, all_costs, cached}
use Rattle.seat_costs.specs.Rows.{Passes}
use Rattle.seat_model.specs.CacheState.{CacheState}
use Rattle.thread_cache.proofs.CallLemmas.{asked_at, keeps_own, state_is}
use Rattle.thread_cache.specs.Quiet.{as_large, had_stopped}
use Rattle.thread_cache.proofs.CallLemmas.{kept_with}
use Rattle.thread_cache.proofs.LargeLemmas.{large_counted, large_counts_then, large_keeps, large_pending, large_step}
use Rattle.thread_cache.proofs.QuietLemmas.{quiet_between, quiet_few, quiet_later, quiet_paid}
use Rattle.seat_costs.proofs.ResultLemmas.{on_ok_then}
use Rattle.thread_cache.proofs.cache_seat.CacheSeat.quiet.Goals as goal

pub invariant_of-self-inside : goal.invariant_of-self-inside
invariant_of-self-inside g c =
    let v = c.self.inside.seat.view in let w = c.flush_all-answer.new.seat.view in let e = c.flush_all-answer.ensures in
    let ran = ap (λ (s : CacheState). s.view.stopped) (state_is c.self.view_is) ∙ c.in_ok-check_running.ensures.ok in
    let some = ap (λ (s : CacheState). cached s.view) (state_is c.self.view_is) in
    let more = c.has_cached.ensures.yes c.if-not-has_cached.false in (
      e.seat,
      (
        ∣ c.recall_soundness-2.ensures ∣₁,
        (
          quiet_between v w c.flush_all-answer.result (c.self.inside.between ran).0 e.flushed e.stopped,
          (
            large_counts_then c.self.inside.small_calls c.self.inside.large_calls c.self.inside.refusals v w
                (quiet_later v w c.flush_all-answer.result ran (omega (some, more, arith)) e.row.view.passes e.flushed e.stopped) c.self.inside.counted,
            tt,
          ),
        ),
      ),
    )

pub returns-clause-unchanged : goal.returns-clause-unchanged
returns-clause-unchanged g c = keeps_own c.args.self.now.state c.self.inside.seat c.flush_all-answer.new.seat _
    (large_step _ c.args.self.now.state (state_is c.self.view_is) c.self.inside.seat c.flush_all-answer.new.seat refl refl
    c.recall_soundness-2.ensures c.in_ok-check_running.ensures.ok).call c.flush_all-answer.ensures.row

pub returns-clause-pending : goal.returns-clause-pending
returns-clause-pending g c = large_pending c.args.self.now.state c.self.inside.seat c.flush_all-answer.new.seat _
    (large_step _ c.args.self.now.state (state_is c.self.view_is) c.self.inside.seat c.flush_all-answer.new.seat refl refl
    c.recall_soundness-2.ensures c.in_ok-check_running.ensures.ok) c.flush_all-answer.ensures.row.view.passes c.flush_all-answer.ensures.row

pub returns-clause-kept : goal.returns-clause-kept
returns-clause-kept g c = record {
  heap = kept_with (c.flush_all-answer.ensures.seat.table ∙ sym c.self.inside.of.table ∙ ap (λ (s : CacheState). s.table) (state_is c.self.view_is))
      (large_keeps c.args.self.now.state c.self.inside.seat c.flush_all-answer.new.seat _
      (large_step _ c.args.self.now.state (state_is c.self.view_is)
      c.self.inside.seat c.flush_all-answer.new.seat refl refl c.recall_soundness-2.ensures c.in_ok-check_running.ensures.ok)
      c.flush_all-answer.ensures.row.view.passes
      (quiet_few c.self.inside.seat.view c.recall_soundness.ensures (c.self.inside.between
      (ap (λ (s : CacheState). s.view.stopped) (state_is c.self.view_is) ∙ c.in_ok-check_running.ensures.ok)).1)
      (quiet_paid c.self.inside.seat.view c.flush_all-answer.new.seat.view c.flush_all-answer.result
      (ap (λ (s : CacheState). s.view.stopped) (state_is c.self.view_is) ∙ c.in_ok-check_running.ensures.ok)
      (let some = ap (λ (s : CacheState). cached s.view) (state_is c.self.view_is) in
      let more = c.has_cached.ensures.yes c.if-not-has_cached.false in omega (some, more, arith))
      (quiet_few c.self.inside.seat.view c.recall_soundness.ensures (c.self.inside.between
      (ap (λ (s : CacheState). s.view.stopped) (state_is c.self.view_is) ∙ c.in_ok-check_running.ensures.ok)).1)
      c.flush_all-answer.ensures.row.view.passes c.flush_all-answer.ensures.row.view.large c.flush_all-answer.ensures.flushed
      c.flush_all-answer.ensures.stopped));
  asked = asked_at c.self.view_is c.flush_all-answer.ensures.asked;
}

pub returns-clause-counted : goal.returns-clause-counted
returns-clause-counted g c = as_large (let some = ap (λ (s : CacheState). cached s.view) (state_is c.self.view_is) in
    let more = c.has_cached.ensures.yes c.if-not-has_cached.false in omega (some, more, arith))
    (large_counted c.args.self.now.state c.self.inside.seat c.flush_all-answer.new.seat _
    (large_step _ c.args.self.now.state (state_is c.self.view_is)
    c.self.inside.seat c.flush_all-answer.new.seat refl refl c.recall_soundness-2.ensures c.in_ok-check_running.ensures.ok)
    c.flush_all-answer.ensures.row.view.passes 0 (omega arith))
    (record {
      count = ap (λ (s : CacheState). s.refusals) (state_is c.self.view_is);
      bytes = ap (λ (s : CacheState). s.refused_bytes) (state_is c.self.view_is);
      looks = ap (λ (s : CacheState). s.refused_looks) (state_is c.self.view_is);
    })

pub returns-clause-costs : goal.returns-clause-costs
returns-clause-costs g c = subst (λ (v : View). Passes (all_costs v) v c.flush_all-answer.new.seat.view)
    (ap (λ (s : CacheState). s.view) (state_is c.self.view_is)) c.flush_all-answer.ensures.row.view.passes

pub returns-in_err-check_running-clause-counted : goal.returns-in_err-check_running-clause-counted
returns-in_err-check_running-clause-counted g c = had_stopped c.in_err-check_running.field-0.0.step c.in_err-check_running.ensures.stopped.stopped refl

pub returns-clause-gave : goal.returns-clause-gave
returns-clause-gave g c = subst (λ (v : View). OnOk c.flush_all-answer.result (v.gives < c.flush_all-answer.new.seat.view.gives
    → HasFlushedAll v c.flush_all-answer.new.seat.view)) (ap (λ (s : CacheState). s.view) (state_is c.self.view_is))
    (on_ok_then c.flush_all-answer.result (λ done more. done) c.flush_all-answer.ensures.flushed)
