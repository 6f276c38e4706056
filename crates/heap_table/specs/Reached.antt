-- What an opened heap comes to.
use Rattle.std.specs.Prelude.{◌≡◌, ℕ, ◌<◌, List, [], ◌∷◌, ◌++◌, Contains, get_or, set, length}
use Rattle.heap_model.specs.declared.block.Block.{Block}
use Rattle.core_model.specs.declared.event.Event.{Event}
use Rattle.core_model.specs.Cells.{cell_at}
use Rattle.core_model.specs.Effects.{learn}
use Rattle.core_model.specs.Guards.{IsOwn, MayStep}
use Rattle.core_model.specs.Memory.{memory_of}
use Rattle.core_model.specs.Carriers.{accepted, AreOneLess, carrier_of, IsCarrier, MayHand, offered}
use Rattle.core_model.specs.Held.{IsHeld}
use Rattle.core_model.specs.Orders.{AreReordered}
use Rattle.core_model.specs.Steps.{TableState, words_after, seat_after}
use Rattle.core_model.specs.View.{Setup, View}

-- the view of a seat that has recorded what loads see of a word
abbrev pub learned : View → ℕ → ℕ → View
learned v word value = record v { volatile = learn v.volatile word value }

-- the words and the views that a state comes to by events of its seats, won or lost, by blocks that they offer and
-- accept, and by own words that they read and record; the views may stand in any order
pub data IsReached (k : Setup) (start : TableState) : List ℕ → List View → Type 0 where
  at_opening : IsReached k start start.words start.views
  by_event : (words : List ℕ) (views : List View) (i : ℕ) (v : View) (event : Event) → IsReached k start words views → i < length views
      → get_or views i v ≡ v
      → v.carries ≡ 0 → MayStep (memory_of k.capacity words) v event
      → IsReached k start (words_after k words v event) (set views i (seat_after (memory_of k.capacity words) v event))
  by_record : (words : List ℕ) (views : List View) (i : ℕ) (v : View) (word : ℕ) → IsReached k start words views → i < length views
      → get_or views i v ≡ v
      → IsOwn v (cell_at k.capacity word) → IsReached k start words (set views i (learned v word (get_or words word 0)))
  by_offer : (words : List ℕ) (views : List View) (i : ℕ) (v : View) (b : Block) → IsReached k start words views → i < length views
      → get_or views i v ≡ v
      → MayHand v → IsHeld v b → IsReached k start words (set views i (offered v b.first_word) ++ carrier_of v b.first_word ∷ [])
  by_accept : (words : List ℕ) (old new : List View) (v u : View) → IsReached k start words old → Contains old v → Contains old u
      → MayHand v → IsCarrier u → AreOneLess old new v u (accepted v u) → IsReached k start words new
  in_another_order : (words : List ℕ) (old new : List View) → IsReached k start words old → AreReordered old new → IsReached k start words new
