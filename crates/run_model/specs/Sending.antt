-- Values on their way from key to key: what each request of a trace sends by its number, and what of it comes to a worker.
use Rattle.std.specs.Prelude.{ℕ, ◌+◌, nat_eq, List, [], ◌∷◌, ◌++◌, filter, map, Option, None, Some}
use Rattle.dict_model.specs.Nodes.{shard_of}
use Rattle.dict_model.specs.Requests.{Request, put, move, Reply, done, after_one}
use Rattle.dict_model.specs.Shards.{Map}
use Rattle.run_model.specs.Workers.{Replies, is_of_worker, worker_of}

-- a value that was sent: by the request of this number in the trace, to the key that is to have it
pub record Sent : Type 0 where
  pub number : ℕ
  pub key : ℕ
  pub value : List ℕ

-- as a request, it is a put of the key that is done
abbrev pub put_of : Sent → Request × Reply
put_of s = (put s.key s.value, done)

-- values that were sent are such puts, in the same order
abbrev pub puts_of : List Sent → List (Request × Reply)
puts_of values = map put_of values

-- requests with their numbers, of which the first one has this
abbrev pub numbered : ℕ → List Request → List (ℕ × Request)
numbered number [] = []
numbered number (request ∷ requests) = (number, request) ∷ numbered (number + 1) requests

-- a worker's requests, with their numbers in the trace
abbrev pub worker_numbered : ℕ → ℕ → List Request → List (ℕ × Request)
worker_numbered workers worker requests = filter (λ n. is_of_worker workers worker n.1) (numbered 0 requests)

-- the value, if there is one, on its way by the request of this number to the key
abbrev pub on_its_way : Option (List ℕ) → ℕ → ℕ → List Sent
on_its_way None number key = []
on_its_way (Some value) number key = record { number = number; key = key; value = value } ∷ []

-- what a request of the map sends with its reply: a move that is done, the value that its key had
abbrev pub sends : Map → ℕ → Request → Reply → List Sent
sends map number (move key to) done = on_its_way (map key) number to
sends map number request reply = []

-- what all of these send, in their order
abbrev pub all_sent : Map → List (ℕ × Request) → Replies → List Sent
all_sent map [] replies = []
all_sent map (n ∷ ns) [] = []
all_sent map (n ∷ ns) (None ∷ replies) = all_sent map ns replies
all_sent map (n ∷ ns) (Some reply ∷ replies) = sends map n.0 n.1 reply ++ all_sent (after_one map n.1 reply) ns replies

-- what comes to a worker by a trace with these replies, in the order of the trace: what is sent to keys of its shards
abbrev pub coming : ℕ → ℕ → Map → List Request → Replies → List Sent
coming workers worker map requests replies =
    filter (λ s. nat_eq (worker_of workers (shard_of s.key)) worker) (all_sent map (numbered 0 requests) replies)
