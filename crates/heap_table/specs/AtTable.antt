-- What contracts see of the table, when a seat of it may take a step, and what a step leaves of its word.
use Rattle.std.specs.Prelude.{◌≡◌, ℕ, ◌+◌, ◌-◌, cond, nat_eq, max, List, [], ◌∷◌, ◌++◌, get_or, length}
use Rattle.heap_model.specs.Counting.{total}
use Rattle.heap_model.specs.Geometry.{image_words}
use Rattle.atomic_table.specs.Seated.{TableId}
use Rattle.atomic_table.specs.Table.{Me}
use Rattle.core_model.specs.declared.event.Event.{Event}
use Rattle.core_model.specs.Carriers.{AreSeatsAndCarriers}
use Rattle.core_model.specs.Effects.{place_of, left_there}
use Rattle.core_model.specs.Cells.{cell_at}
use Rattle.core_model.specs.Guards.{IsOwn}
use Rattle.core_model.specs.Memory.{Memory, memory_of, table_index, tickets}
use Rattle.core_model.specs.Sound.{Sound}
use Rattle.core_model.specs.Steps.{found_by}
use Rattle.core_model.specs.View.{Setup, View}
use Rattle.heap_table.specs.Plays.{HasSoundState, IsEvent, May}
use Rattle.heap_table.specs.Reached.{IsReached, learned}
use Rattle.heap_table.specs.Rule.{Opening, setup_for, state_of}
use Rattle.heap_table.specs.SeatViews.{SeatViews, IsSingle}

-- which table it is, and the heap at rest that it was opened with
pub record SharedView : Type 0 where
  pub table : TableId
  pub opening : Opening

-- the seat stands at the table of this heap for a single seat with the view, which some sound state has
pub record IsAt (shared : SharedView) (table : TableId) (me : Me ℕ SeatViews) (v : View) : Type 0 where
  pub table_is : table ≡ shared.table
  pub single : IsSingle me.0 v
  pub no_slots : me.1 ≡ []
  pub setup : v.setup ≡ setup_for shared.opening
  pub has : HasSoundState v

-- the event leaves the word that it finds
abbrev pub IsLook : Event → Type 0
IsLook event = (m : Memory) (v : View) (found : ℕ) → left_there m v event found ≡ found

-- it draws a ticket: it leaves the next one
abbrev pub IsDraw : Event → Type 0
IsDraw event = (v : View) → (place_of v event ≡ tickets) × ((m : Memory) (found : ℕ) → left_there m v event found ≡ found + 1)

-- it leaves the greater of the word and a value
abbrev pub IsRaise : Event → View → ℕ → Type 0
IsRaise event v value = (m : Memory) (found : ℕ) → left_there m v event found ≡ max found value

-- in each state that has the view it leaves a new word where it finds the one that was seen
abbrev pub IsExchange : Event → View → ℕ → ℕ → Type 0
IsExchange event v seen new = (s : HasSoundState v) (found : ℕ) → found ≡ found_by (memory_of v.setup.capacity s.words) v event
    → left_there (memory_of v.setup.capacity s.words) v event found ≡ cond (nat_eq found seen) new found

-- in each state that has the view it leaves the value
abbrev pub IsStore : Event → View → ℕ → Type 0
IsStore event v value = (s : HasSoundState v) (found : ℕ) → left_there (memory_of v.setup.capacity s.words) v event found ≡ value

-- the seat may do the event, which stores the value there; or it may not do it
pub data MayPut (event : Event) (v : View) (place value : ℕ) : Type 0 where
  may_put : May v event → place ≡ table_index v.setup.capacity (place_of v event) → IsStore event v value → MayPut event v place value
  may_not : (May v event → ⊥) → MayPut event v place value

-- the event is done where the seat may do it, and else nothing
pub data DoesIfMay (event : Event) (v w : View) : Type 0 where
  does : (found : ℕ) → IsEvent event v found w → DoesIfMay event v w
  does_not : (May v event → ⊥) → w ≡ v → DoesIfMay event v w

-- what is found of a word is recorded where it is the seat's own, and else nothing
pub data LearnsOwn (word found : ℕ) (v w : View) : Type 0 where
  is_own : IsOwn v (cell_at v.setup.capacity word) → (s : HasSoundState v) → found ≡ get_or s.words word 0 → w ≡ learned v word found
      → LearnsOwn word found v w
  not_own : (IsOwn v (cell_at v.setup.capacity word) → ⊥) → w ≡ v → LearnsOwn word found v w

-- the volatile words of an image and the durable ones, with some ticket word, are sound with these seats
pub record IsClosedSound (k : Setup) (now kept : List ℕ) (views : List View) : Type 0 where
  pub now_long : length now ≡ image_words k.capacity
  pub kept_long : length kept ≡ image_words k.capacity
  pub drawn : ℕ
  pub sound : Sound k (now ++ (kept ++ (drawn ∷ []))) views
  pub counted : AreSeatsAndCarriers k views

-- the volatile words of an image and the durable ones, with some ticket word, are what the opened heap came to, with these views
pub record IsClosedReached (o : Opening) (now kept : List ℕ) (views : List View) : Type 0 where
  pub now_long : length now ≡ image_words (setup_for o).capacity
  pub kept_long : length kept ≡ image_words (setup_for o).capacity
  pub drawn : ℕ
  pub reached : IsReached (setup_for o) (state_of o) (now ++ (kept ++ (drawn ∷ []))) views

-- the views of so many seats, and of each carrier that they made and that none took in
pub record AreAll (seats : ℕ) (views : List View) : Type 0 where
  pub seats_are : total (λ (v : View). 1 - v.carries) views ≡ seats
  pub carriers_are : total (λ (v : View). v.carries) views + total (λ (v : View). v.accepts) views ≡ total (λ (v : View). v.offers) views
