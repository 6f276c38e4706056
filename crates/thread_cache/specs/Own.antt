-- What loads, stores, write-backs and fences of a seat's own words leave of it.
use Rattle.std.specs.Prelude.{◌≡◌, ◌<◌, ◌⊎◌, ◌/◌, ℕ, None, Some}
use Rattle.heap_model.specs.Geometry.{image_words}
use Rattle.line_memory.specs.Marks.{IsMarked}
use Rattle.core_model.specs.View.{View}
use Rattle.heap_rule.specs.Fences.{Owns}
use Rattle.heap_rule.specs.Seated.{SeatView}
use Rattle.seat_costs.specs.Rows.{next_of, parts}
use Rattle.seat_costs.specs.Words.{IsDurableAt, MayBe, left_at, seen_at}

-- the call was done, with at least one ticket, and the seat goes on with its parts
pub record RunsOn (v w : View) : Type 0 where
  pub ran : v.stopped ≡ None
  pub going : w.stopped ≡ None
  pub parts_are : parts w ≡ parts v
  pub later : next_of v < next_of w

-- at every exit: one that had not stopped drew a ticket, and one that goes on has its parts
pub record Drew (v w : View) : Type 0 where
  pub drew : v.stopped ≡ None → next_of v < next_of w
  pub parts_are : w.stopped ≡ None → parts w ≡ parts v

-- the call was done, and loads see this value
pub record HasValue (word value : ℕ) (v w : View) : Type 0 where
  pub runs : RunsOn v w
  pub seen : seen_at w word ≡ Some value

-- a load or a crash may give this value of the word
abbrev pub MayRead : View → ℕ → ℕ → Type 0
MayRead v word value = MayBe (seen_at v word) value ⊎ MayBe (left_at v word) value

-- the word has the stored value, or what it may have had
pub record MayHave (word value : ℕ) (v w : View) : Type 0 where
  pub each : (read : ℕ) → MayRead w word read → (read ≡ value) ⊎ MayRead v word read

-- the words of the word's line are marked as written back
pub record HasMarkedLine (word : ℕ) (v w : SeatView) : Type 0 where
  pub runs : RunsOn v.view w.view
  pub marked : (k : ℕ) → k < image_words v.view.setup.capacity → k / 8 ≡ word / 8 → IsMarked w.marks k

-- each own word that was marked is durable
pub record HasFenced (v w : SeatView) : Type 0 where
  pub runs : RunsOn v.view w.view
  pub durable : (word : ℕ) → Owns v.view word → IsMarked v.marks word → IsDurableAt w.view word
