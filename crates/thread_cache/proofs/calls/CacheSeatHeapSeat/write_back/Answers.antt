use Rattle.std.proofs.Common.{OnOk, ap, refl, subst, sym, ◌∙◌}
use Rattle.heap_seat.specs.View.{word_of}
use Rattle.core_model.specs.View.{View}
use Rattle.heap_rule.specs.Fences.{Owns}
use Rattle.seat_costs.proofs.WordLemmas.{owns_held}
use Rattle.seat_costs.specs.Words.{IsHeldWord}
use Rattle.seat_model.specs.CacheState.{CacheState}
use Rattle.thread_cache.specs.Own.{HasMarkedLine}
use Rattle.thread_cache.proofs.CallLemmas.{asked_at, between_then, call_stops, counts_then, keeps_own, kept_with, small_counted, small_keeps, small_step, state_is}
use Rattle.thread_cache.proofs.WordCallLemmas.{small_writes_back, spot_held, spot_low}
use Rattle.thread_cache.proofs.calls.CacheSeatHeapSeat.write_back.Goals as goal

pub word-word-requires : goal.word-word-requires
word-word-requires g c = spot_low c.args.self.now.state c.args.s c.requires

pub write_back-answer-requires-clause-own : goal.write_back-answer-requires-clause-own
write_back-answer-requires-clause-own g c =
    subst (Owns c.self.inside.seat.view) (sym c.word-word.ensures) (owns_held c.self.inside.seat.view (word_of c.args.s)
    (subst (λ (v : View). IsHeldWord v (word_of c.args.s)) (sym (ap (λ (s : CacheState). s.view) (state_is c.self.view_is)))
    (spot_held c.args.self.now.state c.args.s c.requires)))

pub invariant_of-self-inside : goal.invariant_of-self-inside
invariant_of-self-inside g c =
    let ran = ap (λ (s : CacheState). s.view.stopped) (state_is c.self.view_is) ∙ c.in_ok-check_running.ensures.ok in (
      c.write_back-answer.ensures.seat,
      (
        ∣ c.recall_soundness-2.ensures ∣₁,
        (
          between_then c.self.inside.seat.view c.write_back-answer.new.seat.view c.write_back-answer.ensures.drew ran c.self.inside.between,
          (
            counts_then c.self.inside.small_calls c.self.inside.large_calls c.self.inside.refusals c.self.inside.seat.view
                c.write_back-answer.new.seat.view (c.write_back-answer.ensures.drew.drew ran) c.self.inside.counted,
            tt,
          ),
        ),
      ),
    )

pub returns-clause-unchanged : goal.returns-clause-unchanged
returns-clause-unchanged g c = keeps_own c.args.self.now.state c.self.inside.seat c.write_back-answer.new.seat _
    (small_step _ c.args.self.now.state (state_is c.self.view_is) c.self.inside.seat c.write_back-answer.new.seat refl refl
    c.recall_soundness-2.ensures c.in_ok-check_running.ensures.ok).call c.write_back-answer.ensures.row

pub returns-clause-counted : goal.returns-clause-counted
returns-clause-counted g c = small_counted c.args.self.now.state c.self.inside.seat c.write_back-answer.new.seat _
    (small_step _ c.args.self.now.state (state_is c.self.view_is) c.self.inside.seat c.write_back-answer.new.seat refl refl
    c.recall_soundness-2.ensures c.in_ok-check_running.ensures.ok) c.write_back-answer.ensures.row.view.passes c.write_back-answer.ensures.looks

pub returns-clause-kept : goal.returns-clause-kept
returns-clause-kept g c = record {
  heap = kept_with (c.write_back-answer.ensures.seat.table ∙ sym c.self.inside.of.table ∙ ap (λ (s : CacheState). s.table) (state_is c.self.view_is))
      (small_keeps c.args.self.now.state c.self.inside.seat c.write_back-answer.new.seat _
      (small_step _ c.args.self.now.state (state_is c.self.view_is)
      c.self.inside.seat c.write_back-answer.new.seat refl refl c.recall_soundness-2.ensures c.in_ok-check_running.ensures.ok)
      c.write_back-answer.ensures.row.view.passes c.write_back-answer.ensures.row.view.large);
  asked = asked_at c.self.view_is c.write_back-answer.ensures.asked;
}

pub returns-clause-stopped : goal.returns-clause-stopped
returns-clause-stopped g c = call_stops c.args.self.now.state c.self.inside.seat c.write_back-answer.new.seat _
    (small_step _ c.args.self.now.state (state_is c.self.view_is) c.self.inside.seat c.write_back-answer.new.seat refl refl
    c.recall_soundness-2.ensures c.in_ok-check_running.ensures.ok).call c.write_back-answer.ensures.row.view.passes c.write_back-answer.result c.write_back-answer.ensures.stopped

pub returns-clause-ok : goal.returns-clause-ok
returns-clause-ok g c = small_writes_back c.args.self.now.state c.self.inside.seat c.write_back-answer.new.seat _
    (small_step _ c.args.self.now.state (state_is c.self.view_is) c.self.inside.seat c.write_back-answer.new.seat refl refl
    c.recall_soundness-2.ensures c.in_ok-check_running.ensures.ok) c.args.s c.write_back-answer.result c.requires
    (subst (λ word. OnOk c.write_back-answer.result (HasMarkedLine word c.self.inside.seat c.write_back-answer.new.seat))
    c.word-word.ensures c.write_back-answer.ensures.marked)
    c.write_back-answer.ensures.marks
