use Rattle.std.proofs.Common.{ap, refl, ◌∙◌}
use Rattle.seat_model.specs.CacheState.{CacheState}
use Rattle.thread_cache.proofs.CallLemmas.{asked_at, counts_then, refused_own, small_step, state_is}
use Rattle.thread_cache.proofs.HandedLemmas.{accept_brings, accept_handled, accept_ok, accept_paid, accepted_between, accepted_later}
use Rattle.thread_cache.proofs.HandledLemmas.{handed_counted, handed_draws, handed_keeps}
use Rattle.thread_cache.proofs.cache_seat.CacheSeat.accept.Goals as goal

pub invariant_of-self-inside : goal.invariant_of-self-inside
invariant_of-self-inside g c =
    let ran = ap (λ (s : CacheState). s.view.stopped) (state_is c.self.view_is) ∙ c.in-Ok.ensures.ok in (
      c.accept-answer.ensures.seat,
      (
        ∣ c.recall_soundness-in-Ok.ensures ∣₁,
        (
          accepted_between c.args.carrier c.self.inside.seat.view c.accept-answer.new.seat.view c.accept-answer.result
              c.accept-answer.ensures.accepted c.accept-answer.ensures.stopped ran c.self.inside.between,
          (
            counts_then c.self.inside.small_calls c.self.inside.large_calls c.self.inside.refusals c.self.inside.seat.view c.accept-answer.new.seat.view
                (accepted_later c.args.carrier c.self.inside.seat.view c.accept-answer.new.seat.view c.accept-answer.result
                c.accept-answer.ensures.accepted c.accept-answer.ensures.stopped ran) c.self.inside.counted,
            tt,
          ),
        ),
      ),
    )

pub returns-in-Ok-clause-ok : goal.returns-in-Ok-clause-ok
returns-in-Ok-clause-ok g c = accept_ok c.args.carrier.block c.args.self.now.state c.self.inside.seat c.accept-answer.new.seat _
    (small_step _ c.args.self.now.state (state_is c.self.view_is) c.self.inside.seat c.accept-answer.new.seat refl refl
    c.recall_soundness-in-Ok.ensures c.in-Ok.ensures.ok) c.recall_soundness.ensures c.args.carrier c.accept-answer.result
    c.accept-answer.ensures.accepted c.accept-answer.ensures.row
    (c.accept-answer.ensures.drew (ap (λ (s : CacheState). s.view.stopped) (state_is c.self.view_is) ∙ c.in-Ok.ensures.ok))

pub returns-in-Ok-clause-brought : goal.returns-in-Ok-clause-brought
returns-in-Ok-clause-brought g c = accept_brings c.args.carrier.block c.args.self.now.state c.self.inside.seat c.accept-answer.new.seat _
    (small_step _ c.args.self.now.state (state_is c.self.view_is) c.self.inside.seat c.accept-answer.new.seat refl refl
    c.recall_soundness-in-Ok.ensures c.in-Ok.ensures.ok) c.recall_soundness.ensures c.args.carrier c.accept-answer.result
    c.accept-answer.ensures.accepted c.accept-answer.ensures.brought

pub returns-in-Ok-clause-unchanged : goal.returns-in-Ok-clause-unchanged
returns-in-Ok-clause-unchanged g c = refused_own c.args.self.now.state c.self.inside.seat c.accept-answer.new.seat _
    (small_step _ c.args.self.now.state (state_is c.self.view_is) c.self.inside.seat c.accept-answer.new.seat refl refl
    c.recall_soundness-in-Ok.ensures c.in-Ok.ensures.ok).call _ c.accept-answer.result c.accept-answer.ensures.none

pub returns-in-Ok-clause-counted : goal.returns-in-Ok-clause-counted
returns-in-Ok-clause-counted g c = handed_counted c.args.self.now.state c.self.inside.seat c.accept-answer.new.seat _
    (small_step _ c.args.self.now.state (state_is c.self.view_is) c.self.inside.seat c.accept-answer.new.seat refl refl
    c.recall_soundness-in-Ok.ensures c.in-Ok.ensures.ok)
    (accept_handled c.args.carrier.block c.args.self.now.state c.self.inside.seat c.accept-answer.new.seat _
    (small_step _ c.args.self.now.state (state_is c.self.view_is)
    c.self.inside.seat c.accept-answer.new.seat refl refl c.recall_soundness-in-Ok.ensures c.in-Ok.ensures.ok)
    c.recall_soundness.ensures c.args.carrier c.accept-answer.result c.accept-answer.ensures.row c.accept-answer.ensures.none)
    c.accept-answer.ensures.looks

pub returns-in-Ok-clause-draws : goal.returns-in-Ok-clause-draws
returns-in-Ok-clause-draws g c = handed_draws c.args.self.now.state c.self.inside.seat c.accept-answer.new.seat _
    (small_step _ c.args.self.now.state (state_is c.self.view_is) c.self.inside.seat c.accept-answer.new.seat refl refl
    c.recall_soundness-in-Ok.ensures c.in-Ok.ensures.ok)
    (accept_handled c.args.carrier.block c.args.self.now.state c.self.inside.seat c.accept-answer.new.seat _
    (small_step _ c.args.self.now.state (state_is c.self.view_is)
    c.self.inside.seat c.accept-answer.new.seat refl refl c.recall_soundness-in-Ok.ensures c.in-Ok.ensures.ok)
    c.recall_soundness.ensures c.args.carrier c.accept-answer.result c.accept-answer.ensures.row c.accept-answer.ensures.none)
    c.accept-answer.ensures.losses

pub returns-in-Ok-clause-costs : goal.returns-in-Ok-clause-costs
returns-in-Ok-clause-costs g c = handed_keeps c.args.self.now.state c.self.inside.seat c.accept-answer.new.seat _
    (small_step _ c.args.self.now.state (state_is c.self.view_is) c.self.inside.seat c.accept-answer.new.seat refl refl
    c.recall_soundness-in-Ok.ensures c.in-Ok.ensures.ok)
    (accept_handled c.args.carrier.block c.args.self.now.state c.self.inside.seat c.accept-answer.new.seat _
    (small_step _ c.args.self.now.state (state_is c.self.view_is)
    c.self.inside.seat c.accept-answer.new.seat refl refl c.recall_soundness-in-Ok.ensures c.in-Ok.ensures.ok)
    c.recall_soundness.ensures c.args.carrier c.accept-answer.result c.accept-answer.ensures.row c.accept-answer.ensures.none)
    (accept_paid c.args.carrier.block c.args.self.now.state c.self.inside.seat c.accept-answer.new.seat _
    (small_step _ c.args.self.now.state (state_is c.self.view_is)
    c.self.inside.seat c.accept-answer.new.seat refl refl c.recall_soundness-in-Ok.ensures c.in-Ok.ensures.ok)
    c.recall_soundness.ensures c.args.carrier c.accept-answer.result c.accept-answer.ensures.accepted c.accept-answer.ensures.none)

pub returns-in-Ok-clause-asked : goal.returns-in-Ok-clause-asked
returns-in-Ok-clause-asked g c = asked_at c.self.view_is c.accept-answer.ensures.asked
