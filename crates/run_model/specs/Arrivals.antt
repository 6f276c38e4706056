-- Values that go from key to key: what arrives of the moves that are done, once all requests of a trace are answered.
use Rattle.std.specs.Prelude.{◌≡◌, ℕ, List, [], ◌∷◌, ◌++◌, filter, take, Option, None, Some}
use Rattle.heap_model.specs.Image.{Image}
use Rattle.dict_model.specs.Nodes.{shard_of}
use Rattle.dict_model.specs.Requests.{Request, put, move, Reply, done, after_one}
use Rattle.dict_model.specs.Shards.{Map, MapOf}
use Rattle.run_model.specs.Workers.{worker_of, is_of_worker}

-- each key has in the whole map what it has in the map of its shard
pub record IsWholeMap (image : Image) (whole : Map) : Type 0 where
  pub each : (key : ℕ) → (map : Map) × MapOf image (shard_of key) map × (map key ≡ whole key)

-- a value is put under the key, and that is done; nothing where there is no value
abbrev pub put_done_of : Option (List ℕ) → ℕ → List (Request × Reply)
put_done_of None key = []
put_done_of (Some value) key = (put key value, done) ∷ []

-- what arrives by a request of the map with its reply: of a move that is done, the value that its key had
abbrev pub arrival : Map → Request → Reply → List (Request × Reply)
arrival map (move key to) done = put_done_of (map key) to
arrival map request reply = []

-- what arrives by all of them, in their order
abbrev pub arrivals : Map → List (Request × Reply) → List (Request × Reply)
arrivals map [] = []
arrivals map (r ∷ rs) = arrival map r.0 r.1 ++ arrivals (after_one map r.0 r.1) rs

-- what arrives in a worker's shards
abbrev pub worker_arrivals : ℕ → ℕ → Map → List (Request × Reply) → List (Request × Reply)
worker_arrivals workers worker map rs = filter (λ r. is_of_worker workers worker r.0) (arrivals map rs)

-- where each worker has brought in so many of these, the first ones: the part of the shard's worker
abbrev pub arrived_for : ℕ → ℕ → Map → List (Request × Reply) → (ℕ → ℕ) → List (Request × Reply)
arrived_for workers shard map rs arrived = take (arrived (worker_of workers shard)) (worker_arrivals workers (worker_of workers shard) map rs)
