use Rattle.std.proofs.Common.{IfOk, ap, refl, subst, sym, ◌∙◌}
use Rattle.heap_seat.specs.View.{word_of}
use Rattle.core_model.specs.View.{View}
use Rattle.heap_rule.specs.Fences.{Owns}
use Rattle.seat_costs.proofs.WordLemmas.{owns_held}
use Rattle.seat_costs.specs.Words.{IsHeldWord}
use Rattle.seat_model.specs.CacheState.{CacheState}
use Rattle.thread_cache.specs.Own.{HasValue}
use Rattle.thread_cache.proofs.CallLemmas.{asked_at, between_then, call_stops, counts_then, keeps_own, kept_with, small_counted, small_keeps, small_step, state_is}
use Rattle.thread_cache.proofs.WordCallLemmas.{small_loads, spot_held, spot_low}
use Rattle.thread_cache.proofs.calls.CacheSeatHeapSeat.load.Goals as goal

pub word-word-requires : goal.word-word-requires
word-word-requires g c = spot_low c.args.self.now.state c.args.s c.requires

pub load-answer-requires-clause-own : goal.load-answer-requires-clause-own
load-answer-requires-clause-own g c =
    subst (Owns c.self.inside.seat.view) (sym c.word-word.ensures) (owns_held c.self.inside.seat.view (word_of c.args.s)
    (subst (λ (v : View). IsHeldWord v (word_of c.args.s)) (sym (ap (λ (s : CacheState). s.view) (state_is c.self.view_is)))
    (spot_held c.args.self.now.state c.args.s c.requires)))

pub invariant_of-self-inside : goal.invariant_of-self-inside
invariant_of-self-inside g c =
    let ran = ap (λ (s : CacheState). s.view.stopped) (state_is c.self.view_is) ∙ c.in_ok-check_running.ensures.ok in (
      c.load-answer.ensures.seat,
      (
        ∣ c.recall_soundness-2.ensures ∣₁,
        (
          between_then c.self.inside.seat.view c.load-answer.new.seat.view c.load-answer.ensures.drew ran c.self.inside.between,
          (
            counts_then c.self.inside.small_calls c.self.inside.large_calls c.self.inside.refusals c.self.inside.seat.view
                c.load-answer.new.seat.view (c.load-answer.ensures.drew.drew ran) c.self.inside.counted,
            tt,
          ),
        ),
      ),
    )

pub returns-clause-unchanged : goal.returns-clause-unchanged
returns-clause-unchanged g c = keeps_own c.args.self.now.state c.self.inside.seat c.load-answer.new.seat _
    (small_step _ c.args.self.now.state (state_is c.self.view_is) c.self.inside.seat c.load-answer.new.seat refl refl
    c.recall_soundness-2.ensures c.in_ok-check_running.ensures.ok).call c.load-answer.ensures.row

pub returns-clause-counted : goal.returns-clause-counted
returns-clause-counted g c = small_counted c.args.self.now.state c.self.inside.seat c.load-answer.new.seat _
    (small_step _ c.args.self.now.state (state_is c.self.view_is) c.self.inside.seat c.load-answer.new.seat refl refl
    c.recall_soundness-2.ensures c.in_ok-check_running.ensures.ok) c.load-answer.ensures.row.view.passes c.load-answer.ensures.looks

pub returns-clause-kept : goal.returns-clause-kept
returns-clause-kept g c = record {
  heap = kept_with (c.load-answer.ensures.seat.table ∙ sym c.self.inside.of.table ∙ ap (λ (s : CacheState). s.table) (state_is c.self.view_is))
      (small_keeps c.args.self.now.state c.self.inside.seat c.load-answer.new.seat _
      (small_step _ c.args.self.now.state (state_is c.self.view_is)
      c.self.inside.seat c.load-answer.new.seat refl refl c.recall_soundness-2.ensures c.in_ok-check_running.ensures.ok)
      c.load-answer.ensures.row.view.passes c.load-answer.ensures.row.view.large);
  asked = asked_at c.self.view_is c.load-answer.ensures.asked;
}

pub returns-clause-stopped : goal.returns-clause-stopped
returns-clause-stopped g c = call_stops c.args.self.now.state c.self.inside.seat c.load-answer.new.seat _
    (small_step _ c.args.self.now.state (state_is c.self.view_is) c.self.inside.seat c.load-answer.new.seat refl refl
    c.recall_soundness-2.ensures c.in_ok-check_running.ensures.ok).call c.load-answer.ensures.row.view.passes c.load-answer.result c.load-answer.ensures.stopped

pub returns-clause-ok : goal.returns-clause-ok
returns-clause-ok g c = small_loads c.args.self.now.state c.self.inside.seat c.load-answer.new.seat _
    (small_step _ c.args.self.now.state (state_is c.self.view_is) c.self.inside.seat c.load-answer.new.seat refl refl
    c.recall_soundness-2.ensures c.in_ok-check_running.ensures.ok) (word_of c.args.s) c.load-answer.result c.load-answer.ensures.marks
    (subst (λ word. IfOk c.load-answer.result (λ value. HasValue word value c.self.inside.seat.view c.load-answer.new.seat.view))
    c.word-word.ensures c.load-answer.ensures.loaded)
