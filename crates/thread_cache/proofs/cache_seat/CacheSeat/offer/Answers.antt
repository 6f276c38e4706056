use Rattle.std.proofs.Common.{ap, refl, sym, ◌∙◌}
use Rattle.seat_model.specs.CacheState.{CacheState}
use Rattle.thread_cache.proofs.CallLemmas.{asked_at, counts_then, refused_own, small_step, state_is}
use Rattle.thread_cache.proofs.HandedLemmas.{offer_handled, offer_ok, offer_paid, offer_sent, offered_between, offered_later}
use Rattle.thread_cache.proofs.HandledLemmas.{handed_counted, handed_draws, handed_keeps}
use Rattle.thread_cache.proofs.FreeLemmas.{held_block}
use Rattle.thread_cache.proofs.cache_seat.CacheSeat.offer.Goals as goal

pub invariant_of-self-inside : goal.invariant_of-self-inside
invariant_of-self-inside g c =
    let ran = ap (λ (s : CacheState). s.view.stopped) (state_is c.self.view_is) ∙ c.in_ok-check_running.ensures.ok in (
      c.offer-answer.ensures.seat,
      (
        ∣ c.recall_soundness-2.ensures ∣₁,
        (
          offered_between c.args.block _ c.self.inside.seat.view c.offer-answer.new.seat.view c.offer-answer.result
              c.offer-answer.ensures.offered c.offer-answer.ensures.stopped ran c.self.inside.between,
          (
            counts_then c.self.inside.small_calls c.self.inside.large_calls c.self.inside.refusals c.self.inside.seat.view c.offer-answer.new.seat.view
                (offered_later c.args.block _ c.self.inside.seat.view c.offer-answer.new.seat.view c.offer-answer.result
                c.offer-answer.ensures.offered c.offer-answer.ensures.stopped ran) c.self.inside.counted,
            tt,
          ),
        ),
      ),
    )

pub offer-answer-requires-clause-held : goal.offer-answer-requires-clause-held
offer-answer-requires-clause-held g c = held_block c.args.self.now.state c.self.inside.seat c.recall_soundness.ensures
    (ap (λ (s : CacheState). s.view) (state_is c.self.view_is)) c.args.block c.requires

pub returns-clause-ok : goal.returns-clause-ok
returns-clause-ok g c = offer_ok c.args.block c.args.self.now.state c.self.inside.seat c.offer-answer.new.seat _
    (small_step _ c.args.self.now.state (state_is c.self.view_is) c.self.inside.seat c.offer-answer.new.seat refl refl
    c.recall_soundness-2.ensures c.in_ok-check_running.ensures.ok)
    c.recall_soundness.ensures _ c.offer-answer.result c.offer-answer.ensures.offered c.offer-answer.ensures.row
    (c.offer-answer.ensures.drew (ap (λ (s : CacheState). s.view.stopped) (state_is c.self.view_is) ∙ c.in_ok-check_running.ensures.ok)) c.requires

pub returns-clause-sent : goal.returns-clause-sent
returns-clause-sent g c = offer_sent c.args.block c.args.self.now.state c.self.inside.seat c.offer-answer.new.seat _
    (small_step _ c.args.self.now.state (state_is c.self.view_is) c.self.inside.seat c.offer-answer.new.seat refl refl
    c.recall_soundness-2.ensures c.in_ok-check_running.ensures.ok)
    c.recall_soundness.ensures _ _ c.offer-answer.result c.offer-answer.ensures.offered c.offer-answer.ensures.sent
    (sym c.self.inside.of.table) (ap (λ (s : CacheState). s.table) (state_is c.self.view_is)) c.requires

pub returns-clause-unchanged : goal.returns-clause-unchanged
returns-clause-unchanged g c = refused_own c.args.self.now.state c.self.inside.seat c.offer-answer.new.seat _
    (small_step _ c.args.self.now.state (state_is c.self.view_is) c.self.inside.seat c.offer-answer.new.seat refl refl
    c.recall_soundness-2.ensures c.in_ok-check_running.ensures.ok).call _ c.offer-answer.result c.offer-answer.ensures.none

pub returns-clause-counted : goal.returns-clause-counted
returns-clause-counted g c = handed_counted c.args.self.now.state c.self.inside.seat c.offer-answer.new.seat _
    (small_step _ c.args.self.now.state (state_is c.self.view_is) c.self.inside.seat c.offer-answer.new.seat refl refl
    c.recall_soundness-2.ensures c.in_ok-check_running.ensures.ok)
    (offer_handled c.args.block c.args.self.now.state c.self.inside.seat c.offer-answer.new.seat _
    (small_step _ c.args.self.now.state (state_is c.self.view_is)
    c.self.inside.seat c.offer-answer.new.seat refl refl c.recall_soundness-2.ensures c.in_ok-check_running.ensures.ok)
    c.recall_soundness.ensures c.offer-answer.result c.offer-answer.ensures.row c.offer-answer.ensures.none) c.offer-answer.ensures.looks

pub returns-clause-draws : goal.returns-clause-draws
returns-clause-draws g c = handed_draws c.args.self.now.state c.self.inside.seat c.offer-answer.new.seat _
    (small_step _ c.args.self.now.state (state_is c.self.view_is) c.self.inside.seat c.offer-answer.new.seat refl refl
    c.recall_soundness-2.ensures c.in_ok-check_running.ensures.ok)
    (offer_handled c.args.block c.args.self.now.state c.self.inside.seat c.offer-answer.new.seat _
    (small_step _ c.args.self.now.state (state_is c.self.view_is)
    c.self.inside.seat c.offer-answer.new.seat refl refl c.recall_soundness-2.ensures c.in_ok-check_running.ensures.ok)
    c.recall_soundness.ensures c.offer-answer.result c.offer-answer.ensures.row c.offer-answer.ensures.none) c.offer-answer.ensures.losses

pub returns-clause-costs : goal.returns-clause-costs
returns-clause-costs g c = handed_keeps c.args.self.now.state c.self.inside.seat c.offer-answer.new.seat _
    (small_step _ c.args.self.now.state (state_is c.self.view_is) c.self.inside.seat c.offer-answer.new.seat refl refl
    c.recall_soundness-2.ensures c.in_ok-check_running.ensures.ok)
    (offer_handled c.args.block c.args.self.now.state c.self.inside.seat c.offer-answer.new.seat _
    (small_step _ c.args.self.now.state (state_is c.self.view_is)
    c.self.inside.seat c.offer-answer.new.seat refl refl c.recall_soundness-2.ensures c.in_ok-check_running.ensures.ok)
    c.recall_soundness.ensures c.offer-answer.result c.offer-answer.ensures.row c.offer-answer.ensures.none)
    (offer_paid c.args.block c.args.self.now.state c.self.inside.seat c.offer-answer.new.seat _
    (small_step _ c.args.self.now.state (state_is c.self.view_is)
    c.self.inside.seat c.offer-answer.new.seat refl refl c.recall_soundness-2.ensures c.in_ok-check_running.ensures.ok)
    c.recall_soundness.ensures _ c.offer-answer.result c.offer-answer.ensures.offered c.offer-answer.ensures.none)

pub returns-clause-asked : goal.returns-clause-asked
returns-clause-asked g c = asked_at c.self.view_is c.offer-answer.ensures.asked
