-- What a trace asks for: the shards that it puts or moves into, the superblocks that its nodes and tables take, and how many steps its run may take.
use Rattle.std.specs.Prelude.{◌≢◌, ℕ, ◌+◌, ◌*◌, ◌^◌, ◌<◌, Bool, true, false, cond, nat_eq, ◌||◌, ◌&&◌, List, [], ◌∷◌, length, count_by, sum_by, None, Contains}
use Rattle.heap_model.specs.Image.{Image, words_from}
use Rattle.heap_model.specs.Sizes.{span_of}
use Rattle.dict_model.specs.Links.{shards}
use Rattle.dict_model.specs.Nodes.{shard_of, node_bytes}
use Rattle.dict_model.specs.Requests.{Request, put, get, del, move}
use Rattle.dict_model.specs.Shards.{Map, MapOf}
use Rattle.run_model.specs.Workers.{shard_asked, worker_of}

-- whether the request is one to the shard
abbrev pub is_to : ℕ → Request → Bool
is_to shard request = nat_eq (shard_asked request) shard

-- the superblocks that a put's node may take; other requests take none
abbrev pub node_span : Request → ℕ
node_span (put key value) = span_of (node_bytes (length value))
node_span (get key) = 0
node_span (del key) = 0
node_span (move key to) = 0

-- whether one of the requests puts into the shard
abbrev pub put_into : List Request → ℕ → Bool
put_into [] shard = false
put_into (put key value ∷ requests) shard = is_to shard (put key value) || put_into requests shard
put_into (get key ∷ requests) shard = put_into requests shard
put_into (del key ∷ requests) shard = put_into requests shard
put_into (move key to ∷ requests) shard = put_into requests shard

-- whether the request brings a value to the shard: a put, or a move to one of its keys
abbrev pub brings : ℕ → Request → Bool
brings shard (put key value) = nat_eq (shard_of key) shard
brings shard (get key) = false
brings shard (del key) = false
brings shard (move key to) = nat_eq (shard_of to) shard

-- whether one of the requests does
abbrev pub is_brought_to : List Request → ℕ → Bool
is_brought_to [] shard = false
is_brought_to (request ∷ requests) shard = brings shard request || is_brought_to requests shard

-- how many shards are brought a value: each may need a table, which takes one superblock at most
abbrev pub tables_needed : List Request → ℕ
tables_needed requests = count_by (is_brought_to requests) (words_from (λ i. i) 0 shards)

-- how many of these are a worker's
abbrev pub worker_tables : ℕ → ℕ → List Request → ℕ
worker_tables workers worker requests =
    count_by (λ shard. nat_eq (worker_of workers shard) worker && is_brought_to requests shard) (words_from (λ i. i) 0 shards)

-- whether one of the requests is a move to a key of the shard
abbrev pub is_moved_to : List Request → ℕ → Bool
is_moved_to [] shard = false
is_moved_to (put key value ∷ requests) shard = is_moved_to requests shard
is_moved_to (get key ∷ requests) shard = is_moved_to requests shard
is_moved_to (del key ∷ requests) shard = is_moved_to requests shard
is_moved_to (move key to ∷ requests) shard = nat_eq (shard_of to) shard || is_moved_to requests shard

-- whether that is so of a shard of the worker: it is to have a table before the first request
abbrev pub is_target_of : ℕ → ℕ → List Request → ℕ → Bool
is_target_of workers worker requests shard = nat_eq (worker_of workers shard) worker && is_moved_to requests shard

-- how many such shards the worker has
abbrev pub targets_of : ℕ → ℕ → List Request → ℕ
targets_of workers worker requests = count_by (is_target_of workers worker requests) (words_from (λ i. i) 0 shards)

-- how many of the requests are puts
abbrev pub puts_among : List Request → ℕ
puts_among [] = 0
puts_among (put key value ∷ requests) = 1 + puts_among requests
puts_among (get key ∷ requests) = puts_among requests
puts_among (del key ∷ requests) = puts_among requests
puts_among (move key to ∷ requests) = puts_among requests

-- how many of them are moves
abbrev pub moves_among : List Request → ℕ
moves_among [] = 0
moves_among (put key value ∷ requests) = moves_among requests
moves_among (get key ∷ requests) = moves_among requests
moves_among (del key ∷ requests) = moves_among requests
moves_among (move key to ∷ requests) = 1 + moves_among requests

-- whether one of the requests is a move
abbrev pub has_move : List Request → Bool
has_move [] = false
has_move (move key to ∷ requests) = true
has_move (put key value ∷ requests) = has_move requests
has_move (get key ∷ requests) = has_move requests
has_move (del key ∷ requests) = has_move requests

-- the superblocks that are always enough for the requests: those of each put's node, one for each shard that is brought
-- a value, and one where there is a move
abbrev pub superblocks_needed : List Request → ℕ
superblocks_needed requests = sum_by node_span requests + tables_needed requests + cond (has_move requests) 1 0

-- the keys of the eight maps of an image are all among these
pub record ListsKeysOf (image : Image) (keys : List ℕ) : Type 0 where
  pub all : (shard : ℕ) (map : Map) → shard < shards → MapOf image shard map → (key : ℕ) → map key ≢ None → Contains keys key

-- how many tickets a run of so many requests by so many workers draws at most, over an image with so many keys
abbrev pub step_bound : ℕ → ℕ → ℕ → ℕ
step_bound requests keys workers =
    (3 * requests + 2 * workers) * workers * 2 ^ 20 + requests * (2 ^ 16 + 8 * (keys + requests))
