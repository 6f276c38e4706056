-- Which worker a shard, a root and a request belong to, and what of a trace and of its replies is a worker's.
use Rattle.std.specs.Prelude.{ℕ, ◌%◌, Bool, nat_eq, nat_lt, List, [], ◌∷◌, filter, cond, Option}
use Rattle.heap_model.specs.Image.{words_from}
use Rattle.dict_model.specs.Links.{shards}
use Rattle.dict_model.specs.Nodes.{shard_of}
use Rattle.dict_model.specs.Requests.{Request, put, get, del, move, Reply}

-- the replies to a trace: none where a request is unanswered
abbrev pub Replies : Type 0
Replies = List (Option Reply)

-- the key that a request is about, of a move the one that it takes out
abbrev pub key_of : Request → ℕ
key_of (put key value) = key
key_of (get key) = key
key_of (del key) = key
key_of (move key to) = key

-- the shard of that key
abbrev pub shard_asked : Request → ℕ
shard_asked request = shard_of (key_of request)

-- of so many workers, the one to which a shard belongs
abbrev pub worker_of : ℕ → ℕ → ℕ
worker_of workers shard = shard % workers

-- the one to which a root belongs: that of the shard, and the first one for every other root
abbrev pub root_owner : ℕ → ℕ → ℕ
root_owner workers root = cond (nat_lt root shards) (worker_of workers root) 0

-- whether a request belongs to the worker
abbrev pub is_of_worker : ℕ → ℕ → Request → Bool
is_of_worker workers worker request = nat_eq (worker_of workers (shard_asked request)) worker

-- a worker's requests, in the order of the trace
abbrev pub worker_requests : ℕ → ℕ → List Request → List Request
worker_requests workers worker requests = filter (is_of_worker workers worker) requests

-- the replies to a worker's requests, in the same order
abbrev pub worker_replies : ℕ → ℕ → List Request → Replies → Replies
worker_replies workers worker [] replies = []
worker_replies workers worker (request ∷ requests) [] = []
worker_replies workers worker (request ∷ requests) (reply ∷ replies) =
    cond (is_of_worker workers worker request) (reply ∷ worker_replies workers worker requests replies)
    (worker_replies workers worker requests replies)

-- all workers' numbers
abbrev pub worker_numbers : ℕ → List ℕ
worker_numbers workers = words_from (λ i. i) 0 workers
