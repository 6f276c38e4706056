-- Worked examples by computation: the events of lines, and which answers are told.
use Rattle.std.specs.Prelude.{◌≡◌, ℕ, List, [], ◌∷◌, Some, None, refl}
use Rattle.core_model.specs.declared.answer.StepAnswer.TheVariants.{Done, Stopped, NotNow}
use Rattle.core_model.specs.declared.event.Event.{Event}
use Rattle.core_model.specs.declared.event.Event.TheVariants.{Tick, Settle, LookHead, Pop}
use Rattle.core_model.specs.declared.event.Shift.TheVariants.{Alloc}
use Rattle.image_run.specs.declared.options.TheConstants.{MOST_BUDGET}
use Rattle.image_run.specs.Replaying.{events_of, last_answers}

-- a look, a bare draw, a draw with an allocation, a word made durable, a pop
abbrev lines : List (ℕ × Event)
lines = (0, LookHead 3) ∷ (1, Tick None) ∷ (1, Tick (Some (Alloc 3))) ∷ (0, Settle 1080) ∷ (1, Pop) ∷ []

-- a look and a pop draw a ticket first
draws_first : events_of lines
    ≡ (0, Tick None) ∷ (0, LookHead 3) ∷ (1, Tick None) ∷ (1, Tick (Some (Alloc 3))) ∷ (0, Settle 1080) ∷ (1, Tick None) ∷ (1, Pop) ∷ []
draws_first = refl

-- the answer to that draw is not told
tells_the_last : last_answers lines (Done ∷ NotNow ∷ Done ∷ NotNow ∷ Done ∷ Done ∷ Done ∷ []) ≡ NotNow ∷ Done ∷ NotNow ∷ Done ∷ Done ∷ []
tells_the_last = refl

tells_a_stop : last_answers ((0, Pop) ∷ []) (Stopped 7 ∷ Stopped 7 ∷ []) ≡ Stopped 7 ∷ []
tells_a_stop = refl

-- no line, no event
nothing_to_do : events_of [] ≡ []
nothing_to_do = refl

-- the budget of a replay: 2^40 - 1 tickets
budget_is : MOST_BUDGET ≡ 1099511627775
budget_is = refl
