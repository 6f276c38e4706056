use Rattle.std.proofs.Common.{◌≢◌, ℕ, OnOk, ap, refl, subst, sym, ◌∙◌}
use Rattle.heap_seat.specs.View.{word_of}
use Rattle.line_memory.specs.Marks.{IsMarked}
use Rattle.core_model.specs.View.{View}
use Rattle.seat_costs.specs.Costs.{one_draw}
use Rattle.seat_costs.specs.Rows.{StoringRow}
use Rattle.seat_costs.specs.Words.{IsHeldWord}
use Rattle.seat_model.specs.CacheState.{CacheState}
use Rattle.thread_cache.specs.Own.{HasValue, MayHave}
use Rattle.thread_cache.proofs.CallLemmas.{asked_at, between_then, call_stops, counts_then, kept_with, refused_own, small_counted, small_keeps, small_step, state_is}
use Rattle.thread_cache.proofs.WordCallLemmas.{small_may_store, small_stores, spot_held, spot_low}
use Rattle.thread_cache.proofs.calls.CacheSeatHeapSeat.store.Goals as goal

pub word-word-requires : goal.word-word-requires
word-word-requires g c = spot_low c.args.self.now.state c.args.s c.requires

pub store-answer-requires-clause-held : goal.store-answer-requires-clause-held
store-answer-requires-clause-held g c =
    subst (IsHeldWord c.self.inside.seat.view) (sym c.word-word.ensures)
    (subst (λ (v : View). IsHeldWord v (word_of c.args.s)) (sym (ap (λ (s : CacheState). s.view) (state_is c.self.view_is)))
    (spot_held c.args.self.now.state c.args.s c.requires))

pub store-answer-requires-clause-no_batch : goal.store-answer-requires-clause-no_batch
store-answer-requires-clause-no_batch g c = (c.self.inside.between (ap (λ (s : CacheState). s.view.stopped) (state_is c.self.view_is)
    ∙ c.in_ok-check_running.ensures.ok)).0.batch

pub invariant_of-self-inside : goal.invariant_of-self-inside
invariant_of-self-inside g c =
    let ran = ap (λ (s : CacheState). s.view.stopped) (state_is c.self.view_is) ∙ c.in_ok-check_running.ensures.ok in (
      c.store-answer.ensures.seat,
      (
        ∣ c.recall_soundness-2.ensures ∣₁,
        (
          between_then c.self.inside.seat.view c.store-answer.new.seat.view c.store-answer.ensures.drew ran c.self.inside.between,
          (
            counts_then c.self.inside.small_calls c.self.inside.large_calls c.self.inside.refusals c.self.inside.seat.view
                c.store-answer.new.seat.view (c.store-answer.ensures.drew.drew ran) c.self.inside.counted,
            tt,
          ),
        ),
      ),
    )

pub returns-clause-unchanged : goal.returns-clause-unchanged
returns-clause-unchanged g c = refused_own c.args.self.now.state c.self.inside.seat c.store-answer.new.seat _
    (small_step _ c.args.self.now.state (state_is c.self.view_is) c.self.inside.seat c.store-answer.new.seat refl refl
    c.recall_soundness-2.ensures c.in_ok-check_running.ensures.ok).call _ c.store-answer.result c.store-answer.ensures.none

pub returns-clause-counted : goal.returns-clause-counted
returns-clause-counted g c = small_counted c.args.self.now.state c.self.inside.seat c.store-answer.new.seat _
    (small_step _ c.args.self.now.state (state_is c.self.view_is) c.self.inside.seat c.store-answer.new.seat refl refl
    c.recall_soundness-2.ensures c.in_ok-check_running.ensures.ok) c.store-answer.ensures.row.but.passes c.store-answer.ensures.looks

pub returns-clause-kept : goal.returns-clause-kept
returns-clause-kept g c = record {
  heap = kept_with (c.store-answer.ensures.seat.table ∙ sym c.self.inside.of.table ∙ ap (λ (s : CacheState). s.table) (state_is c.self.view_is))
      (small_keeps c.args.self.now.state c.self.inside.seat c.store-answer.new.seat _
      (small_step _ c.args.self.now.state (state_is c.self.view_is)
      c.self.inside.seat c.store-answer.new.seat refl refl c.recall_soundness-2.ensures c.in_ok-check_running.ensures.ok)
      c.store-answer.ensures.row.but.passes c.store-answer.ensures.row.large);
  asked = asked_at c.self.view_is c.store-answer.ensures.asked;
}

pub returns-clause-stopped : goal.returns-clause-stopped
returns-clause-stopped g c = call_stops c.args.self.now.state c.self.inside.seat c.store-answer.new.seat _
    (small_step _ c.args.self.now.state (state_is c.self.view_is) c.self.inside.seat c.store-answer.new.seat refl refl
    c.recall_soundness-2.ensures c.in_ok-check_running.ensures.ok).call c.store-answer.ensures.row.but.passes c.store-answer.result c.store-answer.ensures.stopped

pub returns-clause-ok : goal.returns-clause-ok
returns-clause-ok g c = small_stores c.args.self.now.state c.self.inside.seat c.store-answer.new.seat _
    (small_step _ c.args.self.now.state (state_is c.self.view_is) c.self.inside.seat c.store-answer.new.seat refl refl
    c.recall_soundness-2.ensures c.in_ok-check_running.ensures.ok) (word_of c.args.s) c.args.value c.store-answer.result
    (subst (λ word. OnOk c.store-answer.result (HasValue word c.args.value c.self.inside.seat.view c.store-answer.new.seat.view))
    c.word-word.ensures c.store-answer.ensures.stored)
    (subst (λ word. (other : ℕ) → other ≢ word → IsMarked c.self.inside.seat.marks other
    → IsMarked c.store-answer.new.seat.marks other) c.word-word.ensures c.store-answer.ensures.marks)

pub returns-clause-crash : goal.returns-clause-crash
returns-clause-crash g c = small_may_store c.args.self.now.state c.self.inside.seat c.store-answer.new.seat _
    (small_step _ c.args.self.now.state (state_is c.self.view_is) c.self.inside.seat c.store-answer.new.seat refl refl
    c.recall_soundness-2.ensures c.in_ok-check_running.ensures.ok) (word_of c.args.s) c.args.value
    (subst (λ word. StoringRow word one_draw c.self.inside.seat c.store-answer.new.seat) c.word-word.ensures c.store-answer.ensures.row)
    (subst (λ word. MayHave word c.args.value c.self.inside.seat.view c.store-answer.new.seat.view) c.word-word.ensures c.store-answer.ensures.crash)
