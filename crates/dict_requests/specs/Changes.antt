-- What a request may leave of a shard, wherever it ends, and what it leaves where it was done.
use Rattle.std.specs.Prelude.{◌≡◌, ℕ, ◌+◌, ◌≤◌, List, [], ◌∷◌, ◌++◌}
use Rattle.heap_model.specs.declared.block.Block.{Block}
use Rattle.heap_seat.specs.View.{View, word_of}
use Rattle.heap_seat.specs.Words.{IsOwnSpot}
use Rattle.dict_model.specs.Layout.{key_index, value_index}
use Rattle.dict_model.specs.Nodes.{shard_of, bucket_of}
use Rattle.dict_model.specs.Shards.{Map, link_behind}
use Rattle.dict_requests.specs.declared.walk.Place.{Place}
use Rattle.dict_requests.specs.Maps.{GivesMap, GivesEither, KeepsTable, KeepsOtherShards}
use Rattle.dict_requests.specs.Reached.{Reading, ReachesOnlyHeld}
use Rattle.dict_requests.specs.Trails.{HasCome}

-- every mixture gives the map before or the map after, only held blocks are reached, the shard keeps its table, and what other roots have stays
pub record MayChange (shard : ℕ) (after : Map → Map) (v w : View) : Type 0 where
  pub either : (map : Map) → GivesMap v shard map → GivesEither w shard map (after map)
  pub only : ReachesOnlyHeld w
  pub table : KeepsTable shard v w
  pub others : KeepsOtherShards shard v w

-- every mixture gives the map after
pub record Changes (shard : ℕ) (after : Map → Map) (v w : View) : Type 0 where
  pub gives : (map : Map) → GivesMap v shard map → GivesMap w shard (after map)

-- a key's node whose links and key are read: the link that leads to it, and the one that leads from it
pub record IsReadPlace (reads : View → Reading) (v : View) (key : ℕ) (place : Place) (next : ℕ) : Type 0 where
  pub table : Block
  pub before : List Block
  pub come : HasCome reads v (shard_of key) key table (before ++ (place.node ∷ []))
  pub at_is : word_of place.link ≡ link_behind (table.first_word + bucket_of key) before
  pub own : IsOwnSpot v place.link
  pub room : value_index ≤ place.node.words
  pub next_is : reads v place.node.first_word next
  pub key_is : reads v (place.node.first_word + key_index) key
