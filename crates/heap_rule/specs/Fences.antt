-- Marks of write-backs, the fence that settles the marked words, and a draw that may settle one.
use Rattle.std.specs.Prelude.{◌≡◌, ◌≢◌, ◌↔◌, ℕ, ◌/◌, ◌<◌, false, List, [], ◌∷◌, Some, None}
use Rattle.heap_model.specs.Counting.{times}
use Rattle.heap_model.specs.Geometry.{image_words}
use Rattle.line_memory.specs.Marks.{mark_at, IsMarked}
use Rattle.line_memory.specs.Steps.{early_word}
use Rattle.core_model.specs.declared.event.Event.TheVariants.{Settle}
use Rattle.core_model.specs.Cells.{cell_at}
use Rattle.core_model.specs.Guards.{IsOwn}
use Rattle.core_model.specs.View.{View, known}
use Rattle.heap_table.specs.Plays.{IsEvent}
use Rattle.heap_rule.specs.Seated.{SeatView, KeepsStores}
use Rattle.heap_rule.specs.Shown.{Shows, ShowsDurable}

-- the words of the word's line are marked beside those that were, and no other mark has changed
pub record IsLineMarked (word : ℕ) (v w : SeatView) : Type 0 where
  pub view : w.view ≡ v.view
  pub stores : w.stores ≡ v.stores
  pub in_line : (k : ℕ) → k < image_words v.view.setup.capacity → k / 8 ≡ word / 8 → IsMarked w.marks k
  pub others : (k : ℕ) → k / 8 ≢ word / 8 → mark_at w.marks k ≡ mark_at v.marks k
  pub kept : (k : ℕ) → IsMarked v.marks k → IsMarked w.marks k

-- the word is own to the seat
abbrev pub Owns : View → ℕ → Type 0
Owns v word = IsOwn v (cell_at v.setup.capacity word)

-- these words are settled, one after the other
abbrev pub Settles : View → List ℕ → View → Type 0
Settles v [] w = w ≡ v
Settles v (word ∷ words) w = (u : View) × ((found : ℕ) × IsEvent (Settle word) v found u) × Settles u words w

-- what loads see of the word and what a crash leaves are both recorded, and the same
pub record IsRecordedDurable (v : View) (word : ℕ) : Type 0 where
  pub value : ℕ
  pub volatile : Shows v (cell_at v.setup.capacity word) value
  pub durable : ShowsDurable v (cell_at v.setup.capacity word) value

-- of an own word the same is recorded
pub record KeepsRecords (v w : View) (word : ℕ) : Type 0 where
  pub volatile : known w.volatile (cell_at v.setup.capacity word) ≡ known v.volatile (cell_at v.setup.capacity word)
  pub durable : known w.durable (cell_at v.setup.capacity word) ≡ known v.durable (cell_at v.setup.capacity word)

-- the words that are marked and own are settled, and none is marked any more: each of them is durable, with the value
-- that was recorded; of other own words, and of all else, the seat's view stays
pub record IsSeatFence (v w : SeatView) : Type 0 where
  pub words : List ℕ
  pub settles : Settles v.view words w.view
  pub exactly : (word : ℕ) → (0 < times word words) ↔ (IsMarked v.marks word × Owns v.view word)
  pub durable : (word : ℕ) → IsMarked v.marks word → Owns v.view word → IsRecordedDurable w.view word
  pub seen : (word value : ℕ) → Owns v.view word → Shows v.view (cell_at v.view.setup.capacity word) value
      → Shows w.view (cell_at v.view.setup.capacity word) value
  pub others : (word : ℕ) → Owns v.view word → (IsMarked v.marks word → ⊥) → KeepsRecords v.view w.view word
  pub rest : w.view ≡ record v.view { volatile = w.view.volatile; durable = w.view.durable }
  pub clear : (word : ℕ) → mark_at w.marks word ≡ false
  pub stores : w.stores ≡ v.stores

-- the word is settled where it is own
pub data SettlesOwn (word : ℕ) (v w : SeatView) : Type 0 where
  is_own : Owns v.view word → (found : ℕ) → IsEvent (Settle word) v.view found w.view → SettlesOwn word v w
  not_own : (Owns v.view word → ⊥) → w.view ≡ v.view → SettlesOwn word v w

-- with the number r that chance gives, the word of one of the last stores is settled, where it is own
pub data SettlesEarly (r : ℕ) (v w : SeatView) : Type 0 where
  no_store : early_word r v.stores ≡ None → w ≡ v → SettlesEarly r v w
  a_store : (word : ℕ) → early_word r v.stores ≡ Some word → SettlesOwn word v w → KeepsStores v w → SettlesEarly r v w
