-- A trace's requests and a run's replies as those that the dictionary's definitions speak of.
use Rattle.std.specs.Prelude.{◌≤◌, List, length, map, Option, None, Some, Contains}
use Rattle.dict_model.specs.Nodes.{largest_value}
use Rattle.dict_model.specs.Requests.{Request, put, get, del, move, Reply, done, full, none, found}
pub use Rattle.trace_text.specs.declared.request.Request.{Request as Line}
use Rattle.trace_text.specs.declared.request.Request.TheVariants.{Put, Get, Del, Move}
pub use Rattle.trace_text.specs.declared.reply.Reply.{Reply as Told}
use Rattle.trace_text.specs.declared.reply.Reply.TheVariants.{Ok, Full, None as NotThere, Value, Unanswered}
use Rattle.run_model.specs.Workers.{Replies}

-- what a line of a trace asks for
abbrev pub request_of : Line → Request
request_of (Put key value) = put key value
request_of (Get key) = get key
request_of (Del key) = del key
request_of (Move key to) = move key to

-- the reply that is told, if there is one
abbrev pub reply_of : Told → Option Reply
reply_of Ok = Some done
reply_of Full = Some full
reply_of NotThere = Some none
reply_of (Value value) = Some (found value)
reply_of Unanswered = None

-- the requests of lines, in the same order
abbrev pub requests_of : List Line → List Request
requests_of lines = map request_of lines

-- the replies that are told, none where a request is unanswered
abbrev pub replies_of : List Told → Replies
replies_of replies = map reply_of replies

-- a put's value is no longer than a node may hold
abbrev pub IsShort : Request → Type 0
IsShort (put key value) = length value ≤ largest_value
IsShort (get key) = Unit {0}
IsShort (del key) = Unit {0}
IsShort (move key to) = Unit {0}

-- so it is of each of the requests
pub record ValuesAreShort (requests : List Request) : Type 0 where
  pub each : (request : Request) → Contains requests request → IsShort request
