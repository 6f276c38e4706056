-- How far a run has come in its trace, where it was stopped, the room that there is for the values that it reads, and what each request did.
use Rattle.std.specs.Prelude.{◌≡◌, ℕ, ◌+◌, ◌*◌, ◌<◌, ◌≤◌, ◌⊎◌, List, [], ◌∷◌, ◌++◌, length, map, Option, Some, Contains}
use Rattle.heap_model.specs.Geometry.{root_word}
use Rattle.heap_model.specs.Image.{Image}
use Rattle.heap_model.specs.Sizes.{span_of}
use Rattle.heap_seat.specs.declared.fault.Looks.{Looks}
use Rattle.heap_seat.specs.View.{View}
use Rattle.heap_seat.specs.Calls.{SameRefusals}
use Rattle.heap_seat.specs.Sound.{IsSeat}
use Rattle.heap_seat.specs.Rows.{IsRow}
use Rattle.heap_seat.specs.Tickets.{Runs}
use Rattle.dict_model.specs.Links.{shards}
use Rattle.dict_model.specs.Nodes.{largest_value, shard_of, value_words, node_bytes, table_bytes}
use Rattle.dict_model.specs.Requests.{Request, put, get, del, move, Reply, full}
use Rattle.dict_model.specs.Shards.{Map, MapOf}
use Rattle.dict_requests.specs.Gets.{words_of}
use Rattle.dict_requests.specs.Maps.{GivesMap}
use Rattle.dict_requests.specs.Puts.{RootIsSet, WasTurnedDown}
use Rattle.dict_requests.specs.Walks.{ListsKeys}
use Rattle.run_model.specs.Needs.{node_span}
use Rattle.run_model.specs.Workers.{Replies, shard_asked}
use Rattle.run_model.specs.Progress.{Answers, MayAnswer, HasAnswered}
use Rattle.run_model.specs.Spending.{TakesFew, HadNoRoom, IsPut}

-- these requests are left, and the others have these replies
pub record HasWorked (image : Image) (requests left : List Request) (replies : Replies) (v : View) : Type 0 where
  pub rs : List (Request × Reply)
  pub requests_are : requests ≡ map (λ r. r.0) rs ++ left
  pub replies_are : replies ≡ map (λ r. Some r.1) rs
  pub answered : HasAnswered image rs v

-- it was stopped in this request
pub record HasStopped (image : Image) (requests : List Request) (replies : Replies) (w : View) : Type 0 where
  pub request : Request
  pub others : List Request
  pub before : View
  pub seat : IsSeat before
  pub worked : HasWorked image requests (request ∷ others) replies before
  pub may : MayAnswer request before w

-- so long an answer to a get of the key may be: no value, one that the key has in the image, or one that the trace puts under it
pub data IsLengthFor (image : Image) (requests : List Request) (key : ℕ) : ℕ → Type 0 where
  of_none : IsLengthFor image requests key 0
  of_image : (shard : ℕ) (map : Map) (value : List ℕ) → shard < shards → MapOf image shard map → map key ≡ Some value
      → IsLengthFor image requests key (length value)
  of_trace : (value : List ℕ) → Contains requests (put key value) → IsLengthFor image requests key (length value)

-- the room is as long as the longest of these, which is no more than the longest value that there may be
pub record IsRoomFor (image : Image) (requests : List Request) (key room : ℕ) : Type 0 where
  pub short : room ≤ largest_value
  pub enough : (long : ℕ) → IsLengthFor image requests key long → long ≤ room
  pub needed : IsLengthFor image requests key room

-- the room is as long as a get's value may be; another request has none
abbrev pub HasRoom : Image → List Request → Request → ℕ → Type 0
HasRoom image requests (get key) room = IsRoomFor image requests key room
HasRoom image requests (put key value) room = room ≡ 0
HasRoom image requests (del key) room = room ≡ 0
HasRoom image requests (move key to) room = room ≡ 0

-- each request has its room, and there is no other
abbrev pub HaveRoom : Image → List Request → List Request → List (List ℕ) → Type 0
HaveRoom image requests [] rooms = rooms ≡ []
HaveRoom image requests (q ∷ qs) [] = ⊥
HaveRoom image requests (q ∷ qs) (room ∷ rooms) = HasRoom image requests q (length room) × HaveRoom image requests qs rooms

-- a get's value fits, as the seat has it
abbrev pub Fits : View → Request → ℕ → Type 0
Fits v (get key) room =
    (room ≤ largest_value) × ((map : Map) (value : List ℕ) → GivesMap v (shard_of key) map → map key ≡ Some value → length value ≤ room)
Fits v (put key value) room = Unit {0}
Fits v (del key) room = Unit {0}
Fits v (move key to) room = Unit {0}

-- the request has this reply, which is right; it took few superblocks, and a put was told full only where there were too few
pub record Replied (request : Request) (told : Option Reply) (v w : View) : Type 0 where
  pub reply : Reply
  pub told_is : told ≡ Some reply
  pub answers : Answers request reply v w
  pub takes : TakesFew request reply v w
  pub room : IsPut request → reply ≡ full → HadNoRoom request w

-- the words of the value that a request puts, or that its key has which it gets; a move copies none
abbrev pub words_copied : Request → Map → ℕ
words_copied (put key value) map = value_words (length value)
words_copied (get key) map = words_of (map key)
words_copied (del key) map = 0
words_copied (move key to) map = 0

-- the large calls that a request makes at most
abbrev pub large_calls_of : Request → ℕ
large_calls_of (put key value) = 3
large_calls_of (get key) = 3
large_calls_of (del key) = 3
large_calls_of (move key to) = 0

-- the superblocks that a request takes at most: those of its put's node, and one for a table
abbrev pub most_taken : Request → ℕ
most_taken (put key value) = node_span (put key value) + span_of table_bytes
most_taken (get key) = 0
most_taken (del key) = 0
most_taken (move key to) = 0

-- a request makes few calls, by the words that it copies and the keys of its shard, and takes few superblocks
pub record MakesCalls (request : Request) (v w : View) : Type 0 where
  pub few : (map : Map) → GivesMap v (shard_asked request) map → (keys : List ℕ) → ListsKeys v (shard_asked request) keys
      → IsRow (512 + 2 * words_copied request map + 4 * length keys) (large_calls_of request) (most_taken request) v w

-- What was done behind the last reply: nothing where no request is left, and else a part of the first one, by no more calls than that may make.
abbrev pub IsUnderWay : List Request → View → View → Type 0
IsUnderWay [] v w = w ≡ v
IsUnderWay (request ∷ others) v w = MayAnswer request v w × MakesCalls request v w

-- a request asked the heap for so many bytes: those of its put's node where loads see that its shard has a table, and
-- those of a table where they see that it has none
abbrev pub AsksFor : Request → ℕ → View → Type 0
AsksFor (put key value) bytes w =
    (RootIsSet w (shard_of key) × (bytes ≡ node_bytes (length value))) ⊎ ((w.volatile (root_word (shard_of key)) ≡ Some 0) × (bytes ≡ table_bytes))
AsksFor (get key) bytes w = ⊥
AsksFor (del key) bytes w = ⊥
AsksFor (move key to) bytes w = ⊥

-- the heap turned down one request for a block that this request made to it, and no other
pub record WasRefused {S : Type 0} (view : S → View) (keeps : S → S → Type 0) (has_none : S → S → ℕ → Looks → Type 0) (request : Request)
    (s t : S) : Type 0 where
  pub once : (view t).refusals ≡ (view s).refusals + 1
  pub asked : AsksFor request (view t).refused_bytes (view t)
  pub none : WasTurnedDown keeps has_none (view t).refused_bytes (view t).refused_looks s t

-- A request went from one state of a seat to the next. Its reply is right, its tickets are below the budget, its calls
-- are few, and what every call keeps was kept. A put that was told full had a request for a block refused, and no other request had.
pub record TakesRequest {S : Type 0} (view : S → View) (keeps : S → S → Type 0) (has_none : S → S → ℕ → Looks → Type 0) (request : Request)
    (reply : Reply)
    (s t : S) : Type 0 where
  pub answers : Answers request reply (view s) (view t)
  pub may : MayAnswer request (view s) (view t)
  pub runs : Runs (view s) (view t)
  pub calls : MakesCalls request (view s) (view t)
  pub keeps_it : keeps s t
  pub refused : IsPut request → reply ≡ full → WasRefused view keeps has_none request s t
  pub granted : (IsPut request → reply ≡ full → ⊥) → SameRefusals (view s) (view t)

-- and so request by request
abbrev pub TakesRequests : {S : Type 0} → (S → View) → (S → S → Type 0) → (S → S → ℕ → Looks → Type 0) → List (Request × Reply) → S → S → Type 0
TakesRequests view keeps has_none [] s t = t ≡ s
TakesRequests {S} view keeps has_none (r ∷ rs) s t = (u : S) × TakesRequest view keeps has_none r.0 r.1 s u × TakesRequests view keeps has_none rs u t
