-- The events of lines, and the answers that are told of them.
use Rattle.std.proofs.Common.{◌≡◌, ℕ, suc, ◌<◌, inl, inr, List, [], ◌∷◌, length, replicate, None, refl, ap, sym, subst, ◌∙◌, arith}
use Rattle.std.specs.Prelude.{Contains}
use Rattle.std.proofs.lemmas.List.{length-replicate, get_or-replicate}
use Rattle.std.proofs.lemmas.List.Elements.{Contains-push_cases, Contains-append_cases}
use Rattle.core_model.specs.declared.answer.StepAnswer.{StepAnswer}
use Rattle.core_model.specs.declared.event.Event.{Event}
use Rattle.core_model.specs.declared.event.Event.TheVariants.{Tick}
use Rattle.core_model.specs.View.{Setup}
use Rattle.core_model.specs.Steps.{TableState, Runs}
use Rattle.image_run.specs.Replaying.{draws_before, events_by, events_of}

abbrev Line : Type 0
Line = ℕ × Event

-- a member of a list of one value is that value
pub in_replicate : {A : Type 0} (n : ℕ) (x y : A) → Contains (replicate n x) y → x ≡ y
in_replicate n x y has = sym (get_or-replicate n has.0 x y (let below = has.1 in let long = length-replicate n x in omega arith)) ∙ has.2

-- the events of lines are of the lines' seats
pub seats_below : (n : ℕ) (lines : List Line) → ((line : Line) → Contains lines line → line.0 < n) → (e : Line) → Contains (events_of lines) e → e.0 < n
seats_below n [] below e has = absurd (let inside = has.1 in omega arith)
seats_below n (line ∷ lines) below e has = elim (Contains-append_cases (events_by line.0 line.1) (events_of lines) e has) [
  | inl mine ↦ elim (Contains-push_cases (replicate (draws_before line.1) (line.0, Tick None)) (line.0, line.1) e mine) [
    | inl drawn ↦ subst (λ (x : Line). x.0 < n) (in_replicate (draws_before line.1) (line.0, Tick None) e drawn) first
    | inr last ↦ subst (λ (x : Line). x.0 < n) last first
  ]
  | inr later ↦ seats_below n lines (λ other there. below other (suc there.0, omega (arith, there.1), there.2)) e later
] where
  first : line.0 < n
  first = below line (0, omega arith, refl)

-- each event has an answer
pub answered : (k : Setup) (s s' : TableState) (events : List Line) (answers : List StepAnswer) → Runs k s events answers s'
    → length answers ≡ length events
answered k s s' [] [] runs = refl
answered k s s' [] (answer ∷ answers) runs = absurd runs
answered k s s' (e ∷ events) [] runs = absurd runs
answered k s s' (e ∷ events) (answer ∷ answers) runs = ap suc (answered k runs.0 s' events answers runs.3)
