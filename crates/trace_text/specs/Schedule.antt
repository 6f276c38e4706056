-- Schedules: texts of lines, the number of seats and then the step that each line gives to a seat.
use Rattle.std.specs.Prelude.{◌≡◌, ℕ, ◌+◌, ◌^◌, ◌<◌, ◌≤◌, ◌⊎◌, List, [], ◌∷◌, ◌++◌, codes, decimal, Option, Some, None}
use Rattle.std.specs.List.{All, flat_map}
use Rattle.core_model.specs.declared.event.Event.{Event}
use Rattle.core_model.specs.declared.event.Event.TheVariants.{Tick, Load, Store, Settle, LookUsed, TakeFresh, KeepUsed, LookHead, LookLink, Pop, Push, LookAnchor, TakeAll, Give}
use Rattle.core_model.specs.declared.event.Shift.TheVariants.{Cut, Alloc, Free, Lift, Large, Split}
use Rattle.trace_text.specs.declared.request.TraceError.{TraceError}
use Rattle.trace_text.specs.declared.request.TraceError.TheVariants.{BadLine, Memory}
use Rattle.trace_text.specs.declared.schedule.Schedule.{Schedule}
use Rattle.trace_text.specs.Lines.{lines_of, AreWritten, WritesNothing, IsFirstOutsideOf}

-- the verb of an event and the numbers behind it
abbrev pub parts_of : Event → List ℕ × List ℕ
parts_of (Tick None) = (codes "tick", [])
parts_of (Tick (Some (Cut d))) = (codes "cut", d ∷ [])
parts_of (Tick (Some (Alloc class))) = (codes "alloc", class ∷ [])
parts_of (Tick (Some (Free block))) = (codes "free", block ∷ [])
parts_of (Tick (Some (Lift class))) = (codes "lift", class ∷ [])
parts_of (Tick (Some (Large d n))) = (codes "large", d ∷ n ∷ [])
parts_of (Tick (Some (Split block))) = (codes "split", block ∷ [])
parts_of (Load word) = (codes "load", word ∷ [])
parts_of (Store word value) = (codes "store", word ∷ value ∷ [])
parts_of (Settle word) = (codes "settle", word ∷ [])
parts_of LookUsed = (codes "look-used", [])
parts_of (TakeFresh n) = (codes "take", n ∷ [])
parts_of KeepUsed = (codes "keep", [])
parts_of (LookHead list) = (codes "head", list ∷ [])
parts_of LookLink = (codes "link", [])
parts_of Pop = (codes "pop", [])
parts_of (Push d) = (codes "push", d ∷ [])
parts_of (LookAnchor d) = (codes "anchor", d ∷ [])
parts_of (TakeAll d) = (codes "take-all", d ∷ [])
parts_of (Give d) = (codes "give", d ∷ [])

-- numbers, each behind a space
abbrev pub spaced : List ℕ → List ℕ
spaced numbers = flat_map (λ n. codes " " ++ decimal n) numbers

-- the one way in which an event is written
abbrev pub words_of_event : Event → List ℕ
words_of_event event = (parts_of event).0 ++ spaced (parts_of event).1

-- the words write the event, and its numbers have 64 bits
pub record IsEventWords (words : List ℕ) (event : Event) : Type 0 where
  pub words_are : words ≡ words_of_event event
  pub numbers_fit : All (λ n. n < 2 ^ 64) (parts_of event).1

-- a line gives a seat a step: the seat's number, a space, and the event
pub record IsStepLine (seats : ℕ) (line : List ℕ) (step : ℕ × Event) : Type 0 where
  pub words : List ℕ
  pub line_is : line ≡ decimal step.0 ++ codes " " ++ words
  pub seat_is_below : step.0 < seats
  pub event_is : IsEventWords words step.1

-- the first line tells how many seats there are: 1 to 8
pub record IsSeatsLine (line : List ℕ) (seats : ℕ) : Type 0 where
  pub some : 1 ≤ seats
  pub at_most_8 : seats ≤ 8
  pub line_is : line ≡ codes "seats " ++ decimal seats

-- the event of the verb and the numbers, or none
abbrev pub IsPartsReading : List ℕ → List ℕ → Option Event → Type 0
IsPartsReading verb numbers (Some event) = (verb ≡ (parts_of event).0) × (numbers ≡ (parts_of event).1)
IsPartsReading verb numbers None = (event : Event) → verb ≡ (parts_of event).0 → numbers ≡ (parts_of event).1 → ⊥

-- the text writes the schedule
pub record IsSchedule (text : List ℕ) (schedule : Schedule) : Type 0 where
  pub first : List ℕ
  pub further : List (List ℕ)
  pub lines_are : lines_of text ≡ first ∷ further
  pub seats_are : IsSeatsLine first schedule.seats
  pub steps_are : AreWritten (IsStepLine schedule.seats) further schedule.lines.items

-- the line of this number, counted with the first line, is the first that gives no step
pub record IsBadStep (seats : ℕ) (further : List (List ℕ)) (number : ℕ) : Type 0 where
  pub place : ℕ
  pub counted : number ≡ place + 1
  pub first : IsFirstOutsideOf (IsStepLine seats) further place

-- why the lines behind the first give no steps
abbrev pub IsWhyNoSteps : ℕ → List (List ℕ) → TraceError → Type 0
IsWhyNoSteps seats further (BadLine line) = IsBadStep seats further line
IsWhyNoSteps seats further Memory = Unit {0}

-- the line of this number, counted from 1, is the first outside the grammar; an empty text counts as an empty line
abbrev pub IsFirstBad : List (List ℕ) → ℕ → Type 0
IsFirstBad [] number = number ≡ 1
IsFirstBad (first ∷ further) number =
    (WritesNothing IsSeatsLine first × (number ≡ 1))
    ⊎ ((seats : ℕ) × IsSeatsLine first seats × IsBadStep seats further number)

-- why a text is no schedule
abbrev pub IsWhyNotSchedule : List ℕ → TraceError → Type 0
IsWhyNotSchedule text (BadLine line) = IsFirstBad (lines_of text) line
IsWhyNotSchedule text Memory = Unit {0}
