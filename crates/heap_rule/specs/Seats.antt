-- All the seats of a shared heap, as it is opened and as it is closed.
use Rattle.std.specs.Prelude.{◌≡◌, ℕ, ◌<◌, false, replicate, List, [], Contains, length, get_or, map}
use Rattle.atomic_table.specs.Seated.{TableId}
use Rattle.line_memory.specs.Marks.{mark_at}
use Rattle.core_model.specs.Opening.{tabulate}
use Rattle.core_model.specs.View.{View}
use Rattle.heap_table.specs.AtTable.{SharedView}
use Rattle.heap_rule.specs.Seated.{SeatView, IsSeatOf}

-- a seat that has stored nothing yet, and marked nothing
pub record HasNoStores (seat : SeatView) : Type 0 where
  pub stores : seat.stores ≡ []
  pub marks : (word : ℕ) → mark_at seat.marks word ≡ false

-- the seats that a heap was opened for, in their order, each with its view
pub record AreOpenedSeats (shared : SharedView) (views : ℕ → View) (seats : List SeatView) : Type 0 where
  pub count : length seats ≡ shared.opening.seats
  pub each : (i : ℕ) (seat : SeatView) → i < length seats → get_or seats i seat ≡ seat
      → IsSeatOf shared seat × (seat.view ≡ views i) × HasNoStores seat

-- all the seats of a heap, in any order
pub record AreSeatsOf (shared : SharedView) (seats : List SeatView) : Type 0 where
  pub count : length seats ≡ shared.opening.seats
  pub each : (seat : SeatView) → Contains seats seat → IsSeatOf shared seat

-- the views of these seats
abbrev pub views_of : List SeatView → List View
views_of seats = map (λ (seat : SeatView). seat.view) seats

-- the first seats of a table, in their order, each with its view
abbrev pub dealt_seats : TableId → (ℕ → View) → ℕ → ℕ → List SeatView
dealt_seats table views words count =
    tabulate (λ i. record { table = table; view = views i; stores = []; marks = replicate words false }) 0 count

-- each seat is at this table
pub record AreAtTable (table : TableId) (seats : List SeatView) : Type 0 where
  pub each : (seat : SeatView) → Contains seats seat → seat.table ≡ table
