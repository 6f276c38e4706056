-- What a step of a seat of the table is: one event of the core.
use Rattle.std.specs.Prelude.{◌≡◌, ◌≢◌, ℕ, ◌<◌, List, [], ◌∷◌, get_or, set, length}
use Rattle.atomic_table.specs.Table.{Me}
use Rattle.core_model.specs.declared.event.Event.{Event}
use Rattle.core_model.specs.Memory.{memory_of, table_index}
use Rattle.core_model.specs.View.{View}
use Rattle.core_model.specs.Carriers.{accepted, AreSeatsAndCarriers}
use Rattle.core_model.specs.Effects.{place_of, left_there}
use Rattle.core_model.specs.ViewAfter.{view_after}
use Rattle.core_model.specs.Cells.{cell_at}
use Rattle.core_model.specs.Guards.{IsOwn, MayStep}
use Rattle.core_model.specs.Sound.{Sound}
use Rattle.core_model.specs.Steps.{TableState, found_by, words_after}
use Rattle.heap_table.specs.Reached.{IsReached, learned}
use Rattle.heap_table.specs.SeatViews.{SeatViews, IsSingle, all_views}
use Rattle.heap_table.specs.Rule.{Opening, HasAllSeats, setup_for, state_of}

-- a sound state of all seats that the heap was opened for, and of carriers, in which one of the seats has the view
pub record HasSoundState (v : View) : Type 0 where
  pub words : List ℕ
  pub views : List View
  pub seat : ℕ
  pub sound : Sound v.setup words views
  pub counted : AreSeatsAndCarriers v.setup views
  pub is_seat : v.carries ≡ 0
  pub below : seat < length views
  pub at : get_or views seat v ≡ v

-- that state
abbrev pub state_before : {v : View} → HasSoundState v → TableState
state_before s = record { words = s.words; views = s.views }

-- one with other words, in which the seat has another view
abbrev pub state_with : {v : View} → HasSoundState v → List ℕ → View → TableState
state_with s words w = record { words = words; views = set s.views s.seat w }

-- in every such state the seat may do the step
abbrev pub May : View → Event → Type 0
May v event = (s : HasSoundState v) → MayStep (memory_of v.setup.capacity s.words) v event

-- the event in some such state: it finds this word, and leaves the view w; the state is sound again
pub record IsEvent (event : Event) (v : View) (found : ℕ) (w : View) : Type 0 where
  pub before : HasSoundState v
  pub may : MayStep (memory_of v.setup.capacity before.words) v event
  pub found_is : found ≡ found_by (memory_of v.setup.capacity before.words) v event
  pub after : w ≡ view_after (memory_of v.setup.capacity before.words) v event found
  pub kept : Sound v.setup (words_after v.setup before.words v event) (set before.views before.seat w)

-- the same of a seat of the table, which stands for a single seat before and after
pub record Did (event : Event) (me : Me ℕ SeatViews) (found : ℕ) (me' : Me ℕ SeatViews) : Type 0 where
  pub view : View
  pub single : IsSingle me.0 view
  pub left : View
  pub now : me' ≡ (left ∷ [], me.1)
  pub event_is : IsEvent event view found left

-- a store tells what it stored, and not what it found
pub record DidStore (event : Event) (me : Me ℕ SeatViews) (me' : Me ℕ SeatViews) : Type 0 where
  pub found : ℕ
  pub did : Did event me found me'

-- the event works on this word, which becomes f of what it was: in each state of the table in which the seat has the view
pub record IsStepAt (o : Opening) (v : View) (event : Event) (place : ℕ) (f : ℕ → ℕ) : Type 0 where
  pub setup : v.setup ≡ setup_for o
  pub is_seat : v.carries ≡ 0
  pub may : May v event
  pub place_is : place ≡ table_index v.setup.capacity (place_of v event)
  pub leaves : (words : List ℕ) (groups : List SeatViews) → HasAllSeats o words groups → (s : HasSoundState v) → s.words ≡ words
      → s.views ≡ all_views groups
      → f (get_or words place 0) ≡ left_there (memory_of v.setup.capacity words) v event (get_or words place 0)

-- a word is read, and nothing changes: it is that word of some sound state in which the seat has its view
pub record DidRead (place : ℕ) (me : Me ℕ SeatViews) (found : ℕ) (me' : Me ℕ SeatViews) : Type 0 where
  pub same : me' ≡ me
  pub view : View
  pub single : IsSingle me.0 view
  pub has : HasSoundState view
  pub found_is : found ≡ get_or has.words place 0

-- what the opened heap came to, where one of its seats has the view
pub record HasReached (o : Opening) (v : View) : Type 0 where
  pub words : List ℕ
  pub views : List View
  pub seat : ℕ
  pub reached : IsReached (setup_for o) (state_of o) words views
  pub counted : AreSeatsAndCarriers (setup_for o) views
  pub is_seat : v.carries ≡ 0
  pub below : seat < length views
  pub at : get_or views seat v ≡ v

-- a word is read, and the seat is told that its view is one that the heap came to
pub record DidRecall (o : Opening) (me me' : Me ℕ SeatViews) : Type 0 where
  pub same : me' ≡ me
  pub view : View
  pub single : IsSingle me.0 view
  pub has : HasReached o view

-- an own word is read, in some sound state in which the seat has its view, and recorded in it
pub record DidLearn (word : ℕ) (me : Me ℕ SeatViews) (found : ℕ) (me' : Me ℕ SeatViews) : Type 0 where
  pub view : View
  pub single : IsSingle me.0 view
  pub now : me' ≡ (learned view word found ∷ [], me.1)
  pub before : HasSoundState view
  pub found_is : found ≡ get_or before.words word 0
  pub has : HasSoundState (learned view word found)

-- a sound state of all seats that the heap was opened for, and of carriers, in which both views stand, at two places
pub record AreInOneState (v u : View) : Type 0 where
  pub words : List ℕ
  pub views : List View
  pub sound : Sound v.setup words views
  pub counted : AreSeatsAndCarriers v.setup views
  pub one : ℕ
  pub other : ℕ
  pub apart : other ≢ one
  pub below : one < length views
  pub at : get_or views one v ≡ v
  pub other_below : other < length views
  pub other_at : get_or views other u ≡ u

-- a word is read by a seat of the table that stands for two views, and nothing changes
pub record DidReadBoth (me : Me ℕ SeatViews) (me' : Me ℕ SeatViews) : Type 0 where
  pub same : me' ≡ me
  pub one : View
  pub other : View
  pub group : me.0 ≡ other ∷ one ∷ []
  pub together : AreInOneState one other

-- a seat of the table that stood for a carrier and a seat stands for the seat that accepted
pub record DidAccept (me : Me ℕ SeatViews) (me' : Me ℕ SeatViews) : Type 0 where
  pub seat : View
  pub carrier : View
  pub group : me.0 ≡ carrier ∷ seat ∷ []
  pub now : me' ≡ (accepted seat carrier ∷ [], me.1)
  pub setup : carrier.setup ≡ seat.setup
  pub has : HasSoundState (accepted seat carrier)

-- a word is read, and recorded where it is the seat's own
pub data DidLearnOwn (word : ℕ) (me : Me ℕ SeatViews) (found : ℕ) (me' : Me ℕ SeatViews) : Type 0 where
  own_word : (v : View) → IsSingle me.0 v → IsOwn v (cell_at v.setup.capacity word) → DidLearn word me found me' → DidLearnOwn word me found me'
  no_own_word : (v : View) → IsSingle me.0 v → (IsOwn v (cell_at v.setup.capacity word) → ⊥) → me' ≡ me → DidLearnOwn word me found me'

-- a load that finds the value which a store would leave there is that store, where the seat may do it; else nothing changes
pub data DidFind (event : Event) (value : ℕ) (me : Me ℕ SeatViews) (found : ℕ) (me' : Me ℕ SeatViews) : Type 0 where
  stored : found ≡ value → Did event me found me' → DidFind event value me found me'
  may_not : found ≡ value → (v : View) → IsSingle me.0 v → (May v event → ⊥) → me' ≡ me → DidFind event value me found me'
  another : found ≢ value → me' ≡ me → DidFind event value me found me'
