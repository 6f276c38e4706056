-- Shards that moves go to, and whose they are.
use Rattle.std.proofs.Common.{◌≡◌, ℕ, true, nat_eq, List, ◌∷◌}
use Rattle.std.proofs.lemmas.Bool.{and_parts, eqb-true, or_right}
use Rattle.dict_model.specs.Nodes.{shard_of}
use Rattle.dict_model.specs.Requests.{Request, put, get, del, move}
use Rattle.run_model.specs.Needs.{is_moved_to, is_target_of}
use Rattle.run_model.specs.Workers.{worker_of}

-- a shard that is moved to is so by one request more
pub moved_behind : (q : Request) (qs : List Request) (shard : ℕ) → is_moved_to qs shard ≡ true → is_moved_to (q ∷ qs) shard ≡ true
moved_behind (put key value) qs shard is = is
moved_behind (get key) qs shard is = is
moved_behind (del key) qs shard is = is
moved_behind (move key to) qs shard is = or_right (nat_eq (shard_of to) shard) (is_moved_to qs shard) is

-- a target of a worker is one of its own shards
pub target_is_own : (workers worker : ℕ) (requests : List Request) (shard : ℕ) → is_target_of workers worker requests shard ≡ true
    → worker_of workers shard ≡ worker
target_is_own workers worker requests shard is = eqb-true (worker_of workers shard) worker
    (and_parts (nat_eq (worker_of workers shard) worker) (is_moved_to requests shard) is).0
