-- A step, and a list of events, have one outcome: from one state they give one answer each, and come to one state.
use Rattle.std.proofs.Common.{◌≡◌, ℕ, ◌<◌, List, [], ◌∷◌, Option, Some, None, get_or, length, refl, ap, sym, subst, ◌∙◌, arith}
use Rattle.std.proofs.lemmas.List.{get_or_default}
use Rattle.core_model.specs.declared.answer.StepAnswer.{StepAnswer}
use Rattle.core_model.specs.declared.answer.StepAnswer.TheVariants.{Stopped}
use Rattle.core_model.specs.declared.event.Event.{Event}
use Rattle.core_model.specs.Memory.{Memory, memory_of}
use Rattle.core_model.specs.View.{Setup, View, one_if_some}
use Rattle.core_model.specs.Guards.{MayDo}
use Rattle.core_model.specs.Steps.{TableState, seat_after, state_after, StepsTo, is_done, stops, not_now, has_stopped, Runs}

-- what a step answers and comes to is one
abbrev IsOne : StepAnswer → StepAnswer → TableState → TableState → Type 0
IsOne a b t u = (a ≡ b) × (t ≡ u)

module _ (k : Setup) (s : TableState) (i : ℕ) (event : Event) (below : i < length s.views) where
  abbrev m : Memory
  m = memory_of k.capacity s.words

  one_view : (v u : View) → get_or s.views i v ≡ v → get_or s.views i u ≡ u → v ≡ u
  one_view v u is_v is_u = sym is_v ∙ get_or_default s.views i v u below ∙ is_u

  same_after : (v u : View) → v ≡ u → state_after k s i v event ≡ state_after k s i u event
  same_after v u same = ap (λ (w : View). state_after k s i w event) same

  -- a step that a seat does is not refused
  never_refused : (v u : View) → v ≡ u → MayDo m v event → (MayDo m u event → ⊥) → ⊥
  never_refused v u same may refused = refused (subst (λ (w : View). MayDo m w event) same may)

  -- nor done by a seat that has stopped
  never_stopped : (v u : View) (step : ℕ) → v ≡ u → MayDo m v event → u.stopped ≡ Some step → ⊥
  never_stopped v u step same may stop =
      let going : one_if_some u.stopped ≡ 0 = subst (λ (w : View). one_if_some w.stopped ≡ 0) same may.may.going in
      let some : one_if_some u.stopped ≡ 1 = ap (λ (o : Option ℕ). one_if_some o) stop in
      omega arith

  -- nor does it both stop the seat and leave it going
  never_both : (v u : View) (step : ℕ) → v ≡ u → (seat_after m v event).stopped ≡ None → (seat_after m u event).stopped ≡ Some step → ⊥
  never_both v u step same on stop =
      let both : None ≡ Some step = sym on ∙ ap (λ (w : View). (seat_after m w event).stopped) same ∙ stop in
      cc

  not_none : (v u : View) (step : ℕ) → v ≡ u → v.stopped ≡ None → u.stopped ≡ Some step → ⊥
  not_none v u step same on stop =
      let both : None ≡ Some step = sym on ∙ ap (λ (w : View). w.stopped) same ∙ stop in
      cc

  one_step_number : (v u : View) (x y : ℕ) (f : View → Option ℕ) → v ≡ u → f v ≡ Some x → f u ≡ Some y → Stopped x ≡ Stopped y
  one_step_number v u x y f same is_x is_y =
      let both : Some x ≡ Some y = sym is_x ∙ ap f same ∙ is_y in
      let number : x ≡ y = cc in
      ap (λ n. Stopped n) number

  pub one_outcome : (a b : StepAnswer) (t u : TableState) → StepsTo k s i event a t → StepsTo k s i event b u → IsOne a b t u
  one_outcome _ _ _ _ (is_done v at may on) (is_done w at' may' on') = (refl, same_after v w (one_view v w at at'))
  one_outcome _ _ _ _ (is_done v at may on) (stops w step at' may' stop) = absurd (never_both v w step (one_view v w at at') on stop)
  one_outcome _ _ _ _ (is_done v at may on) (not_now w at' going refused) = absurd (never_refused v w (one_view v w at at') may refused)
  one_outcome _ _ _ _ (is_done v at may on) (has_stopped w step at' stop) = absurd (never_stopped v w step (one_view v w at at') may stop)
  one_outcome _ _ _ _ (stops v step at may stop) (is_done w at' may' on) = absurd (never_both w v step (one_view w v at' at) on stop)
  one_outcome _ _ _ _ (stops v step at may stop) (stops w step' at' may' stop') =
      let same = one_view v w at at' in
      (one_step_number v w step step' (λ x. (seat_after m x event).stopped) same stop stop', same_after v w same)
  one_outcome _ _ _ _ (stops v step at may stop) (not_now w at' going refused) = absurd (never_refused v w (one_view v w at at') may refused)
  one_outcome _ _ _ _ (stops v step at may stop) (has_stopped w step' at' stop') = absurd (never_stopped v w step' (one_view v w at at') may stop')
  one_outcome _ _ _ _ (not_now v at going refused) (is_done w at' may on) = absurd (never_refused w v (one_view w v at' at) may refused)
  one_outcome _ _ _ _ (not_now v at going refused) (stops w step at' may stop) = absurd (never_refused w v (one_view w v at' at) may refused)
  one_outcome _ _ _ _ (not_now v at going refused) (not_now w at' going' refused') = (refl, refl)
  one_outcome _ _ _ _ (not_now v at going refused) (has_stopped w step at' stop) = absurd (not_none v w step (one_view v w at at') going stop)
  one_outcome _ _ _ _ (has_stopped v step at stop) (is_done w at' may on) = absurd (never_stopped w v step (one_view w v at' at) may stop)
  one_outcome _ _ _ _ (has_stopped v step at stop) (stops w step' at' may stop') = absurd (never_stopped w v step (one_view w v at' at) may stop)
  one_outcome _ _ _ _ (has_stopped v step at stop) (not_now w at' going refused) = absurd (not_none w v step (one_view w v at' at) going stop)
  one_outcome _ _ _ _ (has_stopped v step at stop) (has_stopped w step' at' stop') =
      (one_step_number v w step step' (λ x. x.stopped) (one_view v w at at') stop stop', refl)

-- and so has a list of them
pub one_run : (k : Setup) (s t u : TableState) (events : List (ℕ × Event)) (answers answers' : List StepAnswer) → Runs k s events answers t
    → Runs k s events answers' u
    → (answers ≡ answers') × (t ≡ u)
one_run k s t u [] [] [] runs runs' = (refl, sym runs ∙ runs')
one_run k s t u [] [] (b ∷ answers') runs runs' = absurd runs'
one_run k s t u [] (a ∷ answers) answers' runs runs' = absurd runs
one_run k s t u (e ∷ events) [] answers' runs runs' = absurd runs
one_run k s t u (e ∷ events) (a ∷ answers) [] runs runs' = absurd runs'
one_run k s t u (e ∷ events) (a ∷ answers) (b ∷ answers') runs runs' =
    let step = one_outcome k s e.0 e.1 runs.1 a b runs.0 runs'.0 runs.2 runs'.2 in
    let later = subst (λ (x : TableState). Runs k x events answers t) step.1 runs.3 in
    let rest = one_run k runs'.0 t u events answers answers' later runs'.3 in
    (ap (λ x. x ∷ answers) step.0 ∙ ap (λ l. b ∷ l) rest.0, rest.1)
