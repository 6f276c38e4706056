-- Lines of a schedule: seats and their steps.
use Rattle.std.proofs.Common.{◌≡◌, ◌≢◌, ℕ, ◌^◌, ◌<◌, List, [], ◌∷◌, ◌++◌, codes, decimal, refl, sym, subst, ◌∙◌, arith, append_assoc}
use Rattle.std.specs.List.{All}
use Rattle.core_model.specs.declared.event.Event.{Event}
use Rattle.trace_text.specs.Numbers.{IsNumber}
use Rattle.trace_text.specs.Schedule.{IsSeatsLine, IsStepLine, IsEventWords}
use Rattle.trace_text.proofs.NumberLemmas.{number_has_no}
use Rattle.trace_text.proofs.PieceLemmas.{same_parts}

-- what is before a line's first space is the seat, what is behind it the event
pub step_parts : (seats : ℕ) (line first rest : List ℕ) (step : ℕ × Event) → seats < 2 ^ 64 → line ≡ first ++ 32 ∷ rest → All (λ b. b ≢ 32) first
    → IsStepLine seats line step → (step.0 < seats) × IsNumber first step.0 × IsEventWords rest step.1
step_parts seats line first rest step fits cut free is =
    let is_number : IsNumber (decimal step.0) step.0 = (omega (arith, is.seat_is_below), refl) in
    let whole : line ≡ decimal step.0 ++ 32 ∷ is.words = is.line_is ∙ append_assoc (decimal step.0) (32 ∷ []) is.words in
    let parts = same_parts 32 first (decimal step.0) rest is.words free (number_has_no 32 (decimal step.0) step.0 (omega arith) is_number)
    (sym cut ∙ whole) in
    (is.seat_is_below, (is_number.0, parts.0), subst (λ l. IsEventWords l step.1) (sym parts.1) is.event_is)

-- the number behind `seats ` is that of the seats
pub seats_number : (line rest : List ℕ) (seats : ℕ) → line ≡ codes "seats " ++ rest → IsSeatsLine line seats → IsNumber rest seats
seats_number line rest seats cut is =
    let same : codes "seats " ++ rest ≡ codes "seats " ++ decimal seats = sym cut ∙ is.line_is in
    let number : rest ≡ decimal seats = cc in
    (omega (arith, is.at_most_8), number)
