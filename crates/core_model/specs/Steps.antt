-- A step of a seat as one change: the memory after it, and the seat's view after it.
use Rattle.std.specs.Prelude.{◌≡◌, ℕ, ◌<◌, List, [], ◌∷◌, get_or, length, set, None, Some}
use Rattle.core_model.specs.declared.answer.StepAnswer.{StepAnswer}
use Rattle.core_model.specs.declared.answer.StepAnswer.TheVariants.{Done, Stopped, NotNow}
use Rattle.core_model.specs.declared.event.Event.{Event}
use Rattle.core_model.specs.Memory.{Memory, read, write, table_index, memory_of}
use Rattle.core_model.specs.View.{Setup, View}
use Rattle.core_model.specs.Effects.{place_of, left_there}
use Rattle.core_model.specs.ViewAfter.{view_after}
use Rattle.core_model.specs.Guards.{MayDo}
use Rattle.core_model.specs.Sound.{Good, Sound}

-- the word that the step finds
abbrev pub found_by : Memory → View → Event → ℕ
found_by m v event = read m (place_of v event)

-- the memory after the step
abbrev pub memory_after : Memory → View → Event → Memory
memory_after m v event = write m (place_of v event) (left_there m v event (found_by m v event))

-- the seat's view after the step
abbrev pub seat_after : Memory → View → Event → View
seat_after m v event = view_after m v event (found_by m v event)

-- memory and seats fit together after the step of seat i
abbrev pub Keeps : Setup → Memory → List View → ℕ → View → Event → Type 0
Keeps k m views i v event = Good k (memory_after m v event) (set views i (seat_after m v event))

-- the words of the shared table and the views of the seats
pub record TableState : Type 0 where
  pub words : List ℕ
  pub views : List View

-- they are sound
abbrev pub IsSoundState : Setup → TableState → Type 0
IsSoundState k s = Sound k s.words s.views

-- the words after the step of a seat
abbrev pub words_after : Setup → List ℕ → View → Event → List ℕ
words_after k words v event = set words (table_index k.capacity (place_of v event))
    (left_there (memory_of k.capacity words) v event (found_by (memory_of k.capacity words) v event))

-- the words and views after the step of seat i
abbrev pub state_after : Setup → TableState → ℕ → View → Event → TableState
state_after k s i v event = record {
  words = words_after k s.words v event;
  views = set s.views i (seat_after (memory_of k.capacity s.words) v event);
}

-- what a seat's event makes of a state, and what it answers: the step is done, won where it compares; a draw stops the
-- seat; it may not be done now, or the seat has stopped, and nothing changes
pub data StepsTo (k : Setup) (s : TableState) (i : ℕ) (event : Event) : StepAnswer → TableState → Type 0 where
  is_done : (v : View) → get_or s.views i v ≡ v → MayDo (memory_of k.capacity s.words) v event
      → (seat_after (memory_of k.capacity s.words) v event).stopped ≡ None → StepsTo k s i event Done (state_after k s i v event)
  stops : (v : View) (step : ℕ) → get_or s.views i v ≡ v → MayDo (memory_of k.capacity s.words) v event
      → (seat_after (memory_of k.capacity s.words) v event).stopped ≡ Some step
      → StepsTo k s i event (Stopped step) (state_after k s i v event)
  not_now : (v : View) → get_or s.views i v ≡ v → v.stopped ≡ None
      → (MayDo (memory_of k.capacity s.words) v event → ⊥) → StepsTo k s i event NotNow s
  has_stopped : (v : View) (step : ℕ) → get_or s.views i v ≡ v → v.stopped ≡ Some step → StepsTo k s i event (Stopped step) s

-- what a list of events makes of a state, with an answer for each event
abbrev pub Runs : Setup → TableState → List (ℕ × Event) → List StepAnswer → TableState → Type 0
Runs k s [] [] s' = s ≡ s'
Runs k s [] (answer ∷ answers) s' = ⊥
Runs k s (e ∷ events) [] s' = ⊥
Runs k s (e ∷ events) (answer ∷ answers) s' =
    (next : TableState) × (e.0 < length s.views) × StepsTo k s e.0 e.1 answer next × Runs k next events answers s'
