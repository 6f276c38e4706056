-- What a worker sends: by one request with its reply, and whether there is a table and room for it.
use Rattle.std.specs.Prelude.{◌≡◌, ℕ, Bool, true, false, List, ◌++◌, sum_by, Option, None, Some}
use Rattle.std.specs.List.Sorted.{IsPermutation}
use Rattle.heap_seat.specs.View.{View}
use Rattle.dict_model.specs.Nodes.{shard_of}
use Rattle.dict_model.specs.Requests.{Request, put, get, del, move, Reply, done, full}
use Rattle.dict_model.specs.Shards.{Map}
use Rattle.dict_requests.specs.Maps.{GivesMap}
use Rattle.run_model.specs.Sending.{Sent, sends}
use Rattle.run_model.specs.Workers.{shard_asked}

-- what a request with this reply sends of the shard's map is sent besides the old ones; nothing where it has no reply
abbrev pub HasSent : ℕ → Request → Option Reply → List Sent → List Sent → View → Type 0
HasSent number request None old new v = new ≡ old
HasSent number request (Some reply) old new v =
    (map : Map) → GivesMap v (shard_asked request) map → IsPermutation (sends map number request reply ++ old) new

-- a move is done only where its other key's shard has a table, and refused only where it has none
abbrev pub GoesByTables : (ℕ → Bool) → Request → Option Reply → Type 0
GoesByTables has (move key to) (Some done) = has (shard_of to) ≡ true
GoesByTables has (move key to) (Some full) = has (shard_of to) ≡ false
GoesByTables has request reply = Unit {0}

-- a move needs room for one node that is sent
abbrev pub needs_room : Request → ℕ
needs_room (put key value) = 0
needs_room (get key) = 0
needs_room (del key) = 0
needs_room (move key to) = 1

-- and so many are needed for all of them
abbrev pub rooms_needed : List Request → ℕ
rooms_needed requests = sum_by needs_room requests
