-- What contracts see of the shared heap and of a seat, and what a seat keeps beside its place at the table.
use Rattle.std.specs.Prelude.{◌≡◌, ◌<◌, ℕ, ◌+◌, ◌≢◌, Result, MatchResult, Option, None, Some, ⊤, Bool, false, List, [], ◌∷◌, length, take, slice_set}
use Rattle.heap_model.specs.Geometry.{image_words}
use Rattle.atomic_table.specs.Seated.{TableId}
use Rattle.atomic_table.specs.Table.{Me}
use Rattle.core_model.specs.declared.event.Event.{Event}
use Rattle.core_model.specs.declared.event.Shift.{Shift}
use Rattle.line_memory.specs.declared.memory.Stopped.{Stopped}
use Rattle.core_model.specs.Effects.{drew}
use Rattle.core_model.specs.ViewAfter.{shifted}
use Rattle.core_model.specs.Memory.{memory_of}
use Rattle.core_model.specs.View.{View}
use Rattle.core_model.specs.Steps.{found_by}
use Rattle.seat_state.specs.declared.notes.SeatNotes.{SeatNotes}
use Rattle.seat_state.specs.Notes.{HasNotes, HasCaches, HasBatch}
use Rattle.seat_index.specs.declared.owned.Owned.{Owned}
use Rattle.seat_index.specs.Owned.{HasOwned, parts_of}
use Rattle.heap_table.specs.SeatViews.{SeatViews, IsSingle, view_in}
use Rattle.heap_table.specs.Plays.{HasSoundState}
use Rattle.heap_table.specs.AtTable.{SharedView}
use Rattle.heap_table.specs.Rule.{setup_for}

-- which table it is at, and its view; the words of its last sixteen stores, the latest first; and by word, whether it is marked as written back
pub record SeatView : Type 0 where
  pub table : TableId
  pub view : View
  pub stores : List ℕ
  pub marks : List Bool

-- its last stores and its marks stay
pub record KeepsStores (v w : SeatView) : Type 0 where
  pub stores : w.stores ≡ v.stores
  pub marks : w.marks ≡ v.marks

-- a store comes before the last ones, and its word is marked no more
pub record HasNewStore (word : ℕ) (v w : SeatView) : Type 0 where
  pub stores : w.stores ≡ take 16 (word ∷ v.stores)
  pub marks : w.marks ≡ slice_set v.marks word false

-- the seat is one of this heap
pub record IsSeatOf (shared : SharedView) (seat : SeatView) : Type 0 where
  pub table : seat.table ≡ shared.table
  pub setup : seat.view.setup ≡ setup_for shared.opening

-- notes, caches and batch of a view, whatever state has it
pub record Fits (notes : SeatNotes) (v : View) : Type 0 where
  pub notes_are : HasNotes notes v
  pub caches : HasCaches notes.caches v.caches
  pub batch : HasBatch notes.batch v.batch

-- once a ticket is drawn with the shift, this is what is kept, in each state that has the view
abbrev pub FitsShift : SeatNotes → View → Option Shift → Type 0
FitsShift notes v shift = (s : HasSoundState v) (found : ℕ)
    → Fits (record notes { ticket = Some found }) (shifted (memory_of v.setup.capacity s.words) (drew v found) shift)

-- some sound state has the seat's view, and what is kept of it is so
pub record IsKeptOf (notes : SeatNotes) (v : View) : Type 0 where
  pub has : HasSoundState v
  pub notes_are : HasNotes notes v
  pub caches : HasCaches notes.caches v.caches
  pub batch : HasBatch notes.batch v.batch

-- a single seat at the table, of a heap of the layout's capacity and of the budget, and what is kept of it
pub record IsSingleSeat (me : Me ℕ SeatViews) (notes : SeatNotes) (capacity budget : ℕ) : Type 0 where
  pub single : IsSingle me.0 (view_in me.0)
  pub no_slots : me.1 ≡ []
  pub kept : IsKeptOf notes (view_in me.0)
  pub capacity_is : capacity ≡ (view_in me.0).setup.capacity
  pub budget_is : budget ≡ (view_in me.0).setup.budget
  pub low : (view_in me.0).setup.budget < 1099511627776

-- the same, with what tells which words are its own, and with a mark for each word
pub record IsWholeSeat (me : Me ℕ SeatViews) (notes : SeatNotes) (owned : Owned) (marks : List Bool) (capacity budget : ℕ) : Type 0 where
  pub seat : IsSingleSeat me notes capacity budget
  pub marks_long : length marks ≡ image_words capacity
  pub own : HasOwned owned (parts_of (view_in me.0))

-- an exchange tells that it was done exactly where the word was as it was seen, and else the word
abbrev pub Tells : ℕ → ℕ → Result ⊤ ℕ → Type 0
Tells seen found result = MatchResult result (λ _. found ≡ seen) (λ word. (word ≡ found) × (found ≢ seen))

-- one more exchange was lost, to the word that the event finds in a sound state that has the view v: the new view keeps
-- that word, and it is not the one that was seen
pub record HasLostTo (event : Event) (seen word : ℕ) (v w : View) : Type 0 where
  pub other : word ≢ seen
  pub found_is : (s : HasSoundState v) × (word ≡ found_by (memory_of v.setup.capacity s.words) v event)
  pub lost_to : w.lost_to ≡ word
  pub losses : w.losses ≡ v.losses + 1

-- a draw tells that a ticket is in hand, or the step at which the seat stopped
abbrev pub TellsDraw : View → Result ⊤ Stopped → Type 0
TellsDraw v result = MatchResult result (λ _. v.stopped ≡ None) (λ e. v.stopped ≡ Some e.step)
