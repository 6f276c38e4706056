-- Making a table: clearing a block, and publishing it at the shard's root.
use Rattle.std.specs.Prelude.{◌≡◌, ℕ, ◌+◌, ◌*◌, ◌<◌, ◌⊎◌, Contains}
use Rattle.heap_model.specs.declared.block.Block.{Block}
use Rattle.heap_seat.specs.View.{View}
use Rattle.heap_seat.specs.Tickets.{Runs}
use Rattle.heap_seat.specs.Calls.{SameRefusals}
use Rattle.dict_model.specs.Nodes.{shard_of}
use Rattle.dict_model.specs.Shards.{Map}
use Rattle.dict_requests.specs.Maps.{GivesMap}
use Rattle.dict_requests.specs.Reached.{Reading, MayReach}
use Rattle.dict_requests.specs.Trails.{IsSettling}
use Rattle.dict_requests.specs.Nodes.{StoresWithin, KeepsPendingBut}
use Rattle.dict_requests.specs.Puts.{IsMissing}

-- the first words of the block are null, so many
abbrev pub HasNulls : Reading → Block → ℕ → Type 0
HasNulls reads b count = (i : ℕ) → i < count → reads (b.first_word + i) 0

-- how far a block has been cleared since the call began
pub record IsClearing (b : Block) (count : ℕ) (v w : View) : Type 0 where
  pub within : StoresWithin b (2 * count) v w
  pub done : (w ≡ v) ⊎ KeepsPendingBut b v w
  pub nulls : HasNulls (IsSettling w) b count

-- a table was made and published, and the map is as before
pub record MakesTable (key : ℕ) (table : Block) (v w : View) : Type 0 where
  pub runs : Runs v w
  pub missing : IsMissing w key table
  pub gives : (map : Map) → GivesMap v (shard_of key) map → GivesMap w (shard_of key) map
  pub reached : (b : Block) (kind : ℕ) → Contains v.held b → MayReach w (shard_of key) b kind → MayReach v (shard_of key) b kind
  pub refusals : SameRefusals v w
