-- The map that an open dictionary is.
use Rattle.std.specs.Prelude.{◌≡◌, ℕ, ◌<◌}
use Rattle.heap_seat.specs.View.{View}
use Rattle.block_heap.specs.SeqState.{seat_of}
use Rattle.dict_model.specs.Links.{shards}
use Rattle.dict_model.specs.Nodes.{shard_of}
use Rattle.dict_model.specs.Shards.{Map}
use Rattle.dict_requests.specs.Maps.{GivesMap}
use Rattle.c_dictionary.specs.declared.store.Store.{Store}
use Rattle.c_dictionary.specs.Keys.{Lists}

-- the shard gives a map, which has of each key of the shard what the whole map has
pub record GivesPart (v : View) (whole : Map) (shard : ℕ) : Type 0 where
  pub part : Map
  pub gives : GivesMap v shard part
  pub same : (key : ℕ) → shard_of key ≡ shard → part key ≡ whole key

-- each shard gives its part of the whole map
pub record GivesWhole (v : View) (whole : Map) : Type 0 where
  pub each : (shard : ℕ) → shard < shards → GivesPart v whole shard

-- the dictionary is this map, and its keys are listed
pub record Holds (map : Map) (s : Store) : Type 0 where
  pub gives : GivesWhole (seat_of s.heap) map
  pub listed : Lists s.keys map

-- what was this map is what is made of it
abbrev pub Turns : (Map → Map) → Store → Store → Type 0
Turns change s t = (map : Map) → Holds map s → Holds (change map) t
