-- What a replay of a schedule over a heap at rest prints.
use Rattle.std.specs.Prelude.{◌≡◌, ℕ, ◌+◌, ◌<◌, ◌≤◌, List, [], ◌∷◌, ◌++◌, length, get_or, drop, map, replicate, slice_index, Contains, None}
use Rattle.std.specs.List.{flat_map}
use Rattle.heap_model.specs.declared.block.Block.{Block}
use Rattle.heap_model.specs.Geometry.{roots, image_words}
use Rattle.heap_model.specs.Image.{Image}
use Rattle.heap_model.specs.Header.{capacity_of}
use Rattle.heap_model.specs.Durability.{IsCrashImage}
use Rattle.crash_image.specs.Crash.{GivesAll, transient_words}
use Rattle.core_model.specs.declared.answer.StepAnswer.{StepAnswer}
use Rattle.core_model.specs.declared.answer.StepAnswer.TheVariants.{NotNow}
use Rattle.core_model.specs.declared.event.Event.{Event}
use Rattle.core_model.specs.declared.event.Event.TheVariants.{Tick, Settle}
use Rattle.core_model.specs.View.{Setup}
use Rattle.core_model.specs.Memory.{memory_of}
use Rattle.core_model.specs.Held.{durable_image}
use Rattle.core_model.specs.Opening.{setup_of, opened_state}
use Rattle.core_model.specs.Steps.{TableState, Runs}
use Rattle.trace_text.specs.Answered.{answers_text_of, tickets_line_of}
use Rattle.image_run.specs.declared.options.TheConstants.{MOST_BUDGET}
use Rattle.image_run.specs.Reporting.{PointsOutside, TellsHeap}
use Rattle.image_run.specs.declared.fault.ReplayFault.{ReplayFault}
use Rattle.image_run.specs.declared.fault.ReplayFault.TheVariants.{Outside, Memory}

-- how many tickets are drawn before the event of a line: one, but none before an event that draws one itself, or needs none
abbrev pub draws_before : Event → ℕ
draws_before (Tick shift) = 0
draws_before (Settle word) = 0
draws_before event = 1

-- the events of a line
abbrev pub events_by : ℕ → Event → List (ℕ × Event)
events_by seat event = replicate (draws_before event) (seat, Tick None) ++ ((seat, event) ∷ [])

-- those of all lines, in their order
abbrev pub events_of : List (ℕ × Event) → List (ℕ × Event)
events_of lines = flat_map (λ (line : ℕ × Event). events_by line.0 line.1) lines

-- of the answers to these events, that to the last event of each line
abbrev pub last_answers : List (ℕ × Event) → List StepAnswer → List StepAnswer
last_answers [] answers = []
last_answers (line ∷ lines) answers =
    get_or answers (draws_before line.1) NotNow ∷ last_answers lines (drop (draws_before line.1 + 1) answers)

-- 1 to 8 seats, and lines of no others
pub record CanBeReplayed (seats : ℕ) (lines : List (ℕ × Event)) : Type 0 where
  pub some : 1 ≤ seats
  pub few : seats ≤ 8
  pub below : (line : ℕ × Event) → Contains lines line → line.0 < seats

-- the heap with the greatest budget
abbrev pub replay_setup : List ℕ → ℕ → Setup
replay_setup words seats = setup_of words MOST_BUDGET seats

-- its state as it is opened: all its blocks and roots belong to seat 0
abbrev pub replay_opening : List ℕ → List Block → ℕ → TableState
replay_opening words held seats = opened_state (replay_setup words seats) held (replicate (length held) 0) (replicate roots 0) seats

-- what the heap's seats come to by the events of the lines, with these answers: so many tickets are drawn, and a crash leaves this image
pub record IsReplayed (words : List ℕ) (held : List Block) (seats : ℕ) (lines : List (ℕ × Event)) (answers : List StepAnswer)
    (tickets : ℕ) (left : List ℕ) : Type 0 where
  pub state : TableState
  pub runs : Runs (replay_setup words seats) (replay_opening words held seats) (events_of lines) answers state
  pub tickets_are : tickets ≡ (memory_of (capacity_of (slice_index words)) state.words).drawn
  pub left_is : IsCrashImage (durable_image (capacity_of (slice_index words)) state.words) (slice_index left)
  pub long : length left ≡ image_words (capacity_of (slice_index words))

-- an answer for each line is printed, then how many tickets were drawn, and then the report on the image that the crash
-- leaves, in which nothing points outside
pub record Replays (words : List ℕ) (held : List Block) (seats : ℕ) (lines : List (ℕ × Event)) (text : List ℕ) : Type 0 where
  pub answers : List StepAnswer
  pub tickets : ℕ
  pub left : List ℕ
  pub replayed : IsReplayed words held seats lines answers tickets left
  pub inside : (at : ℕ) → PointsOutside (slice_index left) at → ⊥
  pub report : List ℕ
  pub tells : TellsHeap (slice_index left) report
  pub text_is : text ≡ answers_text_of (last_answers lines answers) ++ tickets_line_of tickets ++ report

-- The chances of a replay that prints this text began anew by the seed, first of all and once. Then the words were taken that the crash
-- leaves at random, and nothing else.
pub record ReplayAsks {C : Type 0} (seed_gives word_gives : C → ℕ → C → Type 0) (words : List ℕ) (held : List Block) (seats : ℕ)
    (lines : List (ℕ × Event))
    (seed : ℕ) (text : List ℕ) (old new : C) : Type 0 where
  pub begun : C
  pub anew : seed_gives old seed begun
  pub replays : Replays words held seats lines text
  pub asked : GivesAll word_gives begun (map (slice_index replays.left) (transient_words (capacity_of (slice_index words)))) new

-- the image that the crash leaves has a word that points outside
pub record LeavesOutside (words : List ℕ) (held : List Block) (seats : ℕ) (lines : List (ℕ × Event)) (at value : ℕ) : Type 0 where
  pub answers : List StepAnswer
  pub tickets : ℕ
  pub left : List ℕ
  pub replayed : IsReplayed words held seats lines answers tickets left
  pub points : PointsOutside (slice_index left) at
  pub value_is : value ≡ slice_index left at

-- why nothing is printed: of want of memory nothing is said
abbrev pub StopsReplay : List ℕ → List Block → ℕ → List (ℕ × Event) → ReplayFault → Type 0
StopsReplay words held seats lines (Outside at value) = LeavesOutside words held seats lines at value
StopsReplay words held seats lines Memory = Unit {0}

-- why the report on an image is not made
abbrev pub StopsReport : Image → ReplayFault → Type 0
StopsReport image (Outside at value) = PointsOutside image at × (value ≡ image at)
StopsReport image Memory = Unit {0}
