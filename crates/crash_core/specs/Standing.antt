-- What the core keeps of a state: the words themselves; by seat its tickets and snapshots, and the ends of its caches
-- and of its batch; and whose each block, superblock and root is.
use Rattle.std.specs.Prelude.{◌≡◌, ◌≢◌, ◌⊎◌, ℕ, ◌+◌, ◌<◌, ◌≤◌, ◌↔◌, Bool, true, cond, nat_eq, List, [], get_or, set, length, Option, None, Some, ⊤}
use Rattle.heap_model.specs.Counting.{times, total, one_if}
use Rattle.heap_model.specs.Geometry.{roots, image_words}
use Rattle.core_model.specs.declared.answer.StepAnswer.{StepAnswer}
use Rattle.core_model.specs.declared.answer.StepAnswer.TheVariants.{Done, Stopped, NotNow}
use Rattle.core_model.specs.declared.event.Event.{Event}
use Rattle.core_model.specs.declared.event.Event.TheVariants.{Tick, Settle}
use Rattle.crash_core.specs.declared.owners.BlockPlace.{BlockPlace}
use Rattle.crash_core.specs.declared.owners.BlockPlace.TheVariants as place
use Rattle.crash_core.specs.declared.owners.BlockOwner.{BlockOwner}
use Rattle.seat_state.specs.declared.notes.SeatNotes.{SeatNotes}
use Rattle.seat_state.specs.declared.notes.TheConstants.{NEW_SEAT}
use Rattle.crash_core.specs.declared.state.CoreState.{CoreState}
use Rattle.heap_model.specs.declared.block.Block.{Block}
use Rattle.heap_model.specs.Words.{anchor_state, empty_state, large_info}
use Rattle.core_model.specs.Memory.{Memory, memory_of, info, anchor, durable_info}
use Rattle.core_model.specs.Carriers.{AreSeatsAndCarriers, IsCarrier, IsEmptied}
use Rattle.core_model.specs.Handing.{AcceptsTo, OffersTo}
use Rattle.core_model.specs.Held.{IsHeld}
use Rattle.core_model.specs.Opening.{plain_view}
use Rattle.core_model.specs.View.{Setup, View, one_if_some, times_block, times_classed, times_large, times_raw}
use Rattle.core_model.specs.Guards.{IsThere, HasTicketFor, MayDo}
use Rattle.core_model.specs.Sound.{Sound}
use Rattle.core_model.specs.Steps.{TableState, StepsTo, Runs, state_after, seat_after}
use Rattle.seat_state.specs.declared.superblocks.SuperblockOwner.{SuperblockOwner}
use Rattle.seat_state.specs.Superblocks.{HasSuperblocks, count_in, no_superblock, usage_for}
use Rattle.seat_state.specs.Notes.{HasNotes, HasCaches, HasBatch}

-- where seat i has the block
abbrev pub place_for : ℕ → BlockOwner → BlockPlace
place_for i o = cond (nat_eq o.seat i) o.place place.Nowhere

-- how often a block that is there is held
abbrev pub held_in : BlockPlace → ℕ
held_in place.Held = 1
held_in p = 0

-- how often it is in a cache
abbrev pub cached_in : BlockPlace → ℕ
cached_in place.Cached = 1
cached_in p = 0

-- how often it is in the batch
abbrev pub batched_in : BlockPlace → ℕ
batched_in place.Batched = 1
batched_in p = 0

-- past the end nothing is anyone's
abbrev pub no_block : BlockOwner
no_block = record { seat = 0; place = place.Nowhere }

-- a block is where it is said
pub record IsPlace (b : ℕ) (p : BlockPlace) (small caches : List (List ℕ)) (batch : List ℕ) : Type 0 where
  pub held : total (times b) small ≡ held_in p
  pub cached : total (times b) caches ≡ cached_in p
  pub batched : times b batch ≡ batched_in p

-- its blocks, by first word
abbrev pub HasBlocksOf : List BlockOwner → ℕ → List (List ℕ) → List (List ℕ) → List ℕ → Type 0
HasBlocksOf owners i small caches batch = (b : ℕ) → IsPlace b (place_for i (get_or owners b no_block)) small caches batch

-- its roots; a number that is no root's is no owner
pub record HasRoots (owners : List ℕ) (i : ℕ) (owned : List ℕ) : Type 0 where
  pub is_owned : (n : ℕ) → times n owned ≡ one_if (nat_eq (get_or owners n (i + 1)) i)

-- what is kept of seat i is of the view
pub record IsKept (c : CoreState) (i : ℕ) (t : SeatNotes) (v : View) : Type 0 where
  pub notes : HasNotes t v
  pub caches : HasCaches t.caches v.caches
  pub batch : HasBatch t.batch v.batch
  pub blocks : HasBlocksOf c.blocks.items i v.small v.caches v.batch.blocks
  pub superblocks : HasSuperblocks c.superblocks.items i v.raw v.split v.cutting v.classed v.large
  pub roots : HasRoots c.roots.items i v.roots

-- nothing of the heap is in the view
pub record HasNothing (u : View) : Type 0 where
  pub blocks : (b : ℕ) → times_block b u ≡ 0
  pub superblocks : (d : ℕ) → (times_raw d u ≡ 0) × (times_classed d u.classed ≡ 0) × (times_large d u.large ≡ 0)

-- it is the view at the index, or has nothing
abbrev pub IsAmong : List View → ℕ → View → Type 0
IsAmong views j u = ((j < length views) × (get_or views j u ≡ u)) ⊎ HasNothing u

-- seat i has the notes
pub record IsSeatAt (c : CoreState) (i : ℕ) (t : SeatNotes) : Type 0 where
  pub less : i < length c.seats.items
  pub at : get_or c.seats.items i t ≡ t

-- a view that has nothing, of a seat or a carrier that is not there
abbrev pub nobody : Setup → View
nobody k = plain_view k [] []

-- what is kept of the words and of each view of a sound state: of the opened seats, and behind them of the carriers
pub record KeepsViews (c : CoreState) (k : Setup) (views : List View) : Type 0 where
  pub sound : Sound k c.words.items views
  pub capacity : k.capacity ≡ c.geometry.capacity
  pub budget : k.budget ≡ c.budget
  pub opened : k.seats ≡ length c.seats.items
  pub low : k.budget < 1099511627776
  pub few : length views < 4611686018427387904
  pub seats : length views ≡ length c.seats.items + c.carriers
  pub blocks : length c.blocks.items ≡ image_words k.capacity
  pub superblocks : length c.superblocks.items ≡ k.capacity
  pub roots : length c.roots.items ≡ roots
  pub each : (i : ℕ) (t : SeatNotes) (v : View) → i < length views → IsSeatAt c i t → get_or views i v ≡ v → IsKept c i t v
  pub carried : (j : ℕ) (u : View) → length c.seats.items ≤ j → j < length views → get_or views j u ≡ u → IsKept c j NEW_SEAT u
  pub none : (j : ℕ) → length views ≤ j → IsKept c j NEW_SEAT (nobody k)

-- the core keeps the words and the views of the state
pub record KeepsState (c : CoreState) (k : Setup) (s : TableState) : Type 0 where
  pub words : c.words.items ≡ s.words
  pub keeps : KeepsViews c k s.views

-- a carrier that has a block
pub record IsLaden (u : View) : Type 0 where
  pub carrier : IsCarrier u
  pub block : Block
  pub holds : IsHeld u block

-- the seats come first, and behind them each carrier, with its block or with nothing
pub record AreInOrder (k : Setup) (views : List View) : Type 0 where
  pub counted : AreSeatsAndCarriers k views
  pub few : k.seats ≤ 8
  pub all : k.seats ≤ length views
  pub first : (i : ℕ) (v : View) → i < k.seats → get_or views i v ≡ v → v.carries ≡ 0
  pub behind : (j : ℕ) (u : View) → k.seats ≤ j → j < length views → get_or views j u ≡ u → IsLaden u ⊎ IsEmptied u

-- the core stands for the state
pub record Represents (c : CoreState) (k : Setup) (s : TableState) : Type 0 where
  pub words : c.words.items ≡ s.words
  pub keeps : KeepsViews c k s.views
  pub order : AreInOrder k s.views
  -- each carrier took a ticket
  pub made : length s.views + total (λ (v : View). one_if_some v.ticket) s.views ≤ k.seats + (memory_of k.capacity s.words).drawn

-- the blocks of a list have another owner, and all others stay
pub record HasNewOwner (old new : List BlockOwner) (blocks : List ℕ) (owner : BlockOwner) : Type 0 where
  pub long : length new ≡ length old
  pub inside : (b : ℕ) → 0 < times b blocks → get_or new b no_block ≡ owner
  pub outside : (b : ℕ) → times b blocks ≡ 0 → get_or new b no_block ≡ get_or old b no_block

-- the owner, once one gives all that it has to another
abbrev pub owner_after : ℕ → ℕ → ℕ → ℕ
owner_after from to owner = cond (nat_eq owner from) to owner

-- a small block, once the one gives all that it has to the other
abbrev pub block_given : ℕ → ℕ → BlockOwner → BlockOwner
block_given from to o = record o { seat = owner_after from to o.seat }

-- a superblock, once it does
abbrev pub superblock_given : ℕ → ℕ → SuperblockOwner → SuperblockOwner
superblock_given from to o = record o { seat = owner_after from to o.seat }

-- a small block is held
pub record OwnsSmall (c : CoreState) (j : ℕ) : Type 0 where
  pub block : ℕ
  pub held : 0 < held_in (place_for j (get_or c.blocks.items block no_block))

-- a large block is held
pub record OwnsLarge (c : CoreState) (j : ℕ) : Type 0 where
  pub first : ℕ
  pub some : 0 < count_in (usage_for j (get_or c.superblocks.items first no_superblock))

-- the number is no seat's, and a block is its own
pub record CarriesBlock (c : CoreState) (j : ℕ) : Type 0 where
  pub behind : length c.seats.items ≤ j
  pub owns : OwnsSmall c j ⊎ OwnsLarge c j

-- the memory that its words are
abbrev pub memory_at : CoreState → Memory
memory_at c = memory_of c.geometry.capacity c.words.items

-- some state is there that it keeps
pub record IsCore (c : CoreState) : Type 0 where
  pub setup : Setup
  pub views : List View
  pub keeps : KeepsViews c setup views

-- some state is there that it stands for
pub record IsStanding (c : CoreState) : Type 0 where
  pub setup : Setup
  pub state : TableState
  pub stands : Represents c setup state

-- the state that the words and views are
abbrev pub state_of : CoreState → List View → TableState
state_of c views = record { words = c.words.items; views = views }

-- of each state that the core keeps, the answer is what its step has, and then it keeps the state after the step
pub data Steps (old new : CoreState) (k : Setup) (views : List View) (i : ℕ) (v : View) (event : Event) : StepAnswer → Type 0 where
  steps_done : MayDo (memory_of k.capacity old.words.items) v event
      → (seat_after (memory_of k.capacity old.words.items) v event).stopped ≡ None
      → KeepsState new k (state_after k (state_of old views) i v event) → Steps old new k views i v event Done
  steps_stopped : (step : ℕ) → MayDo (memory_of k.capacity old.words.items) v event
      → (seat_after (memory_of k.capacity old.words.items) v event).stopped ≡ Some step
      → KeepsState new k (state_after k (state_of old views) i v event) → Steps old new k views i v event (Stopped step)
  steps_not : (MayDo (memory_of k.capacity old.words.items) v event → ⊥) → new ≡ old → Steps old new k views i v event NotNow

-- the same, of a seat that has not stopped, and has a ticket where the event needs one
abbrev pub Takes : CoreState → ℕ → Event → StepAnswer → CoreState → Type 0
Takes old i event answer new = (k : Setup) (views : List View) (v : View) → KeepsViews old k views → i < length views
    → get_or views i v ≡ v → v.stopped ≡ None → HasTicketFor v event → Steps old new k views i v event answer

-- a ticket is there, where the event needs one
abbrev pub HasTicketAt : Option ℕ → Event → Type 0
HasTicketAt ticket (Tick shift) = ⊤
HasTicketAt ticket (Settle word) = ⊤
HasTicketAt ticket event = IsThere ticket

-- of each state that the core stands for, the answer is what the event has there, and then it stands for what the event makes of the state
abbrev pub Follows : CoreState → ℕ → Event → StepAnswer → CoreState → Type 0
Follows old i event answer new = (k : Setup) (s : TableState) → Represents old k s
    → (next : TableState) × StepsTo k s i event answer next × Represents new k next

-- the same of a block that a seat offers
abbrev pub Offers : CoreState → ℕ → ℕ → StepAnswer → CoreState → Type 0
Offers old i block answer new = (k : Setup) (s : TableState) → Represents old k s
    → (next : TableState) × OffersTo s i block answer next × Represents new k next

-- the same of a carrier that a seat accepts
abbrev pub Accepts : CoreState → ℕ → ℕ → StepAnswer → CoreState → Type 0
Accepts old i j answer new = (k : Setup) (s : TableState) → Represents old k s
    → (next : TableState) × AcceptsTo s i j answer next × Represents new k next

-- the same of a list of events, with an answer for each
abbrev pub RunsOn : CoreState → List (ℕ × Event) → List StepAnswer → CoreState → Type 0
RunsOn old events answers new = (k : Setup) (s : TableState) → Represents old k s
    → (next : TableState) × Runs k s events answers next × Represents new k next

-- the seat goes on, and has a ticket in hand
abbrev pub MayHandAt : CoreState → ℕ → Type 0
MayHandAt c i = (t : SeatNotes) → IsSeatAt c i t → (t.stopped ≡ None) × IsThere t.ticket

-- of each state that the core stands for, a seat's parts have become those of another view; no word changed, nor its tickets
pub record IsMoved (old new : CoreState) (views : List View) (i : ℕ) (t : SeatNotes) (w : View) : Type 0 where
  pub after : SeatNotes
  pub seats : new.seats.items ≡ set old.seats.items i after
  pub ticket : after.ticket ≡ t.ticket
  pub stopped : after.stopped ≡ t.stopped
  pub words : new.words ≡ old.words
  pub geometry : new.geometry ≡ old.geometry
  pub budget : new.budget ≡ old.budget
  pub carriers : new.carriers ≡ old.carriers
  pub blocks : length new.blocks.items ≡ length old.blocks.items
  pub superblocks : length new.superblocks.items ≡ length old.superblocks.items
  pub roots : new.roots.items ≡ old.roots.items
  pub mine : IsKept new i after w
  pub others : (j : ℕ) (s : SeatNotes) (u : View) → j ≢ i → IsAmong views j u
      → IsKept old j s u → IsKept new j s u

-- a seat's view becomes what the change makes of it, in each state that the core stands for
abbrev pub Moves : CoreState → ℕ → (Memory → View → View) → CoreState → Type 0
Moves old i change new = (k : Setup) (views : List View) (v : View) (t : SeatNotes) → KeepsViews old k views → i < length views
    → get_or views i v ≡ v → IsSeatAt old i t
    → IsMoved old new views i t (change (memory_of k.capacity old.words.items) v)

-- the answer to whether a guard holds of the seat, in each state that the core stands for
abbrev pub Decides : CoreState → ℕ → (Memory → View → Type 0) → Bool → Type 0
Decides c i Guard answer = (k : Setup) (views : List View) (v : View) → KeepsViews c k views → i < length views
    → get_or views i v ≡ v
    → (answer ≡ true) ↔ Guard (memory_of k.capacity c.words.items) v

-- superblock e may be one of the n from d on that become a large block
pub record MayJoin (m : Memory) (v : View) (d n e : ℕ) : Type 0 where
  pub claimed : 0 < times e v.raw + times e v.split
  pub empty : (anchor_state (anchor m e) ≡ empty_state) ⊎ (0 < times e v.split)
  pub holds : info m e ≡ cond (nat_eq e d) (large_info n) 0
  pub durable : durable_info m e ≡ info m e
