-- What an open dictionary is: one that takes requests, one that has stopped, and either of them.
use Rattle.std.specs.Prelude.{◌≡◌, ◌≢◌, ℕ, ◌*◌, ◌<◌, ◌≤◌, List, length, slice_index, Option, None, Some, Contains}
use Rattle.heap_model.specs.declared.block.Block.{Block}
use Rattle.heap_model.specs.Rest.{IsReady as IsAtRest}
use Rattle.heap_seat.specs.View.{View}
use Rattle.block_heap.specs.Closing.{IsOpened, KeepsFixed}
use Rattle.block_heap.specs.SeqState.{SeqState, seat_of}
use Rattle.dict_model.specs.Links.{shards}
use Rattle.dict_model.specs.Shards.{Map}
use Rattle.dict_requests.specs.Maps.{GivesEither}
use Rattle.dict_requests.specs.Reached.{ReachesOnlyHeld}
use Rattle.dict_requests.specs.Shards.{HasShards}
use Rattle.run_model.specs.Opened.{IsDictionary}
use Rattle.c_dictionary.specs.declared.store.Store.{Store}
use Rattle.c_dictionary.specs.Dictionary.{Holds}

-- it has not stopped, a request to any shard may be made, and it is a map
pub record IsReady (s : Store) : Type 0 where
  pub running : s.heap.stopped ≡ None
  pub shards : HasShards (seat_of s.heap)
  pub map : Map
  pub holds : Holds map s

-- its steps are used up: it stopped at this one, which its budget does not allow
pub record HasStopped (s : Store) : Type 0 where
  pub step : ℕ
  pub stopped : s.heap.stopped ≡ Some step
  pub above : s.heap.parts.words.budget ≤ step

-- its budget is of so many steps, and none was taken
pub record HasAllSteps (budget : ℕ) (s : Store) : Type 0 where
  pub budget_is : s.heap.parts.words.budget ≡ budget
  pub none : s.heap.parts.words.drawn ≡ 0

-- every mixture gives the shard one of two maps, or of one
pub record HasMaps (v : View) (shard : ℕ) : Type 0 where
  pub one : Map
  pub other : Map
  pub either : GivesEither v shard one other

-- it was opened over a dictionary at rest, whose fixed words and length it has kept; and however it has ended since, each
-- shard is a map whichever of its two values each word has
pub record IsSound (s : Store) : Type 0 where
  pub words : List ℕ
  pub held : List Block
  pub budget : ℕ
  pub begun : SeqState
  pub at_rest : IsAtRest words held
  pub dictionary : IsDictionary (slice_index words) (Contains held)
  pub opened : IsOpened words held budget begun
  pub keeps : KeepsFixed begun s.heap
  pub length_is : s.length ≡ 8 * length words
  pub only : ReachesOnlyHeld (seat_of s.heap)
  pub maps : (shard : ℕ) → shard < shards → HasMaps (seat_of s.heap) shard

-- what a handle in this state may have: at 1 requests may be made, and else it has stopped
pub record IsHeldAt (state : ℕ) (s : Store) : Type 0 where
  pub some : state ≢ 0
  pub sound : IsSound s
  pub going : state ≡ 1 → IsReady s
  pub halted : state ≢ 1 → HasStopped s

-- at 0 it has none
abbrev pub IsStateOf : ℕ → Option Store → Type 0
IsStateOf state None = state ≡ 0
IsStateOf state (Some s) = IsHeldAt state s
