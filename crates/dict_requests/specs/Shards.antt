-- A seat that has the whole dictionary.
use Rattle.std.specs.Prelude.{ℕ, ◌<◌}
use Rattle.heap_seat.specs.View.{View}
use Rattle.dict_model.specs.Links.{shards}
use Rattle.dict_requests.specs.Removal.{IsShard}

-- a request to any shard may be made
pub record HasShards (v : View) : Type 0 where
  pub each : (shard : ℕ) → shard < shards → IsShard v shard
