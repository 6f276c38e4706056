-- The search for a key: from the shard's root to its table, and along the key's bucket.
use Rattle.std.specs.Prelude.{◌≡◌, ℕ, [], Option, None, IfSome, IfNone, Contains}
use Rattle.heap_model.specs.declared.block.Block.{Block}
use Rattle.heap_model.specs.Geometry.{root_word}
use Rattle.heap_seat.specs.View.{View}
use Rattle.dict_model.specs.Nodes.{buckets, shard_of}
use Rattle.dict_model.specs.Shards.{Map}
use Rattle.dict_requests.specs.declared.search.SearchEnd.{SearchEnd}
use Rattle.dict_requests.specs.declared.search.SearchEnd.TheVariants.{NoTable, Missing, Found}
use Rattle.dict_requests.specs.Maps.{GivesMap}
use Rattle.dict_requests.specs.Trails.{pointer_to, IsSettling, HasCome}
use Rattle.dict_requests.specs.Quiet.{GoesPending}
use Rattle.dict_requests.specs.Walks.{IsFoundPlace}

-- the root leads to the table
pub record HasRoot (w : View) (shard : ℕ) (table : Block) : Type 0 where
  pub owned : Contains w.roots shard
  pub held : Contains w.held table
  pub size : table.words ≡ buckets
  pub root : IsSettling w (root_word shard) (pointer_to table)

-- the root is null: the shard has no keys
pub record HasNoRoot (shard : ℕ) (v w : View) : Type 0 where
  pub root : IsSettling w (root_word shard) 0
  pub empty : (map : Map) → GivesMap v shard map → (key : ℕ) → map key ≡ None

-- the root was followed
pub record FindsTable (shard : ℕ) (table : Option Block) (v w : View) : Type 0 where
  pub goes : GoesPending v w
  pub some : IfSome table (HasRoot w shard)
  pub none : IfNone table (HasNoRoot shard v w)

-- where the search for a key came to: there is no table, or the key isn't in it, or its node was found
abbrev pub EndsAt : ℕ → View → View → SearchEnd → Type 0
EndsAt key v w NoTable = HasNoRoot (shard_of key) v w
EndsAt key v w (Missing table) =
    HasCome IsSettling w (shard_of key) key table [] × ((map : Map) → GivesMap v (shard_of key) map → map key ≡ None)
EndsAt key v w (Found place) = IsFoundPlace w key place

-- a search for the key ends so, and leaves nothing unsettled but what it followed
pub record Searches (key : ℕ) (search : SearchEnd) (v w : View) : Type 0 where
  pub goes : GoesPending v w
  pub ends : EndsAt key v w search
