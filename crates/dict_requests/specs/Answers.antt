-- What the requests answer, and how many calls they make.
use Rattle.std.specs.Prelude.{◌≢◌, ℕ, ◌+◌, ◌*◌, ◌↔◌, List, length, None, Bool, IsTrue}
use Rattle.heap_seat.specs.View.{View}
use Rattle.heap_seat.specs.Tickets.{Runs}
use Rattle.heap_seat.specs.Rows.{IsRow}
use Rattle.dict_model.specs.Nodes.{shard_of}
use Rattle.dict_model.specs.Requests.{without_key}
use Rattle.dict_model.specs.Shards.{Map}
use Rattle.dict_requests.specs.Maps.{GivesMap}
use Rattle.dict_requests.specs.Walks.{ListsKeys}

-- a delete was done: the map has the key no more, and the answer tells whether it had it
pub record Deletes (key : ℕ) (found : Bool) (v w : View) : Type 0 where
  pub runs : Runs v w
  pub gives : (map : Map) → GivesMap v (shard_of key) map → GivesMap w (shard_of key) (without_key map key)
  pub tells : (map : Map) → GivesMap v (shard_of key) map → IsTrue found ↔ (map key ≢ None)

-- at most so many small calls, four for each key of the shard, and three large ones, which take so many superblocks
abbrev pub MakesFew : ℕ → ℕ → ℕ → View → View → Type 0
MakesFew words most shard v w = (keys : List ℕ) → ListsKeys v shard keys → IsRow (512 + 2 * words + 4 * length keys) 3 most v w
