-- What a request for a key's node relies on, and what its parts leave.
use Rattle.std.specs.Prelude.{◌≡◌, ℕ, Contains}
use Rattle.heap_model.specs.declared.block.Block.{Block}
use Rattle.heap_seat.specs.View.{View, kind_of}
use Rattle.dict_model.specs.Links.{table_kind}
use Rattle.dict_model.specs.Shards.{Map}
use Rattle.dict_requests.specs.declared.walk.Place.{Place}
use Rattle.dict_requests.specs.Maps.{GivesMap}
use Rattle.dict_requests.specs.Reached.{MayReach, ReachesOnlyHeld}
use Rattle.dict_requests.specs.Trails.{IsSettling}
use Rattle.dict_requests.specs.Quiet.{GoesPending}
use Rattle.dict_requests.specs.Changes.{IsReadPlace}

-- the shard's root is the seat's own and has the kind of a table, the shard is a map in every mixture, and only held blocks are reached
pub record IsShard (v : View) (shard : ℕ) : Type 0 where
  pub owned : Contains v.roots shard
  pub kind_is : kind_of v shard ≡ table_kind
  pub only : ReachesOnlyHeld v
  pub map : Map
  pub gives : GivesMap v shard map

-- the links round a key's node and its key were followed
pub record ReadsPlace (key : ℕ) (place : Place) (next : ℕ) (v w : View) : Type 0 where
  pub goes : GoesPending v w
  pub taken : IsReadPlace IsSettling w key place next

-- a held block that no root of the seat reaches, whatever of its two values each word has
pub record IsLoose (b : Block) (v : View) : Type 0 where
  pub held : Contains v.held b
  pub unreached : (root kind : ℕ) → MayReach v root b kind → ⊥
