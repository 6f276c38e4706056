-- What requests take of an open heap: superblocks for nodes and tables, and calls.
use Rattle.std.specs.Prelude.{◌≡◌, ℕ, ◌+◌, ◌*◌, ◌<◌, ◌≤◌, List, ◌∷◌, ◌++◌, count_by, sum_by, Bool, false, not, ◌&&◌, nat_eq, Option, None, Some}
use Rattle.heap_model.specs.Geometry.{root_word}
use Rattle.heap_model.specs.Image.{words_from}
use Rattle.heap_seat.specs.View.{View}
use Rattle.heap_seat.specs.Calls.{GoesOn}
use Rattle.heap_seat.specs.Looks.{KnowsNoLess, KeepsLooks}
use Rattle.dict_model.specs.Links.{shards}
use Rattle.dict_model.specs.Requests.{Request, put, get, del, move, Reply, full}
use Rattle.dict_requests.specs.Puts.{WasNull, RootIsSet}
use Rattle.run_model.specs.Needs.{node_span}
use Rattle.run_model.specs.Workers.{shard_asked}
use Rattle.run_model.specs.Runs.{span_taken, first_span}

-- whether a word is known, and isn't null
abbrev pub is_set : Option ℕ → Bool
is_set None = false
is_set (Some x) = not (nat_eq x 0)

-- whether loads see that the shard's root isn't null
abbrev pub sees_table : View → ℕ → Bool
sees_table v shard = is_set (v.volatile (root_word shard))

-- the request is a put, the only one that may make a table
abbrev pub IsPut : Request → Type 0
IsPut (put key value) = Unit {0}
IsPut (get key) = ⊥
IsPut (del key) = ⊥
IsPut (move key to) = ⊥

-- an answered request took superblocks for its put's node at most, and one for a table where its shard had none and has one now
pub data TakesFew (request : Request) (reply : Reply) (v w : View) : Type 0 where
  for_node : w.taken ≤ v.taken + span_taken (request, reply) → TakesFew request reply v w
  with_table : IsPut request → WasNull v (shard_asked request) → RootIsSet w (shard_asked request)
      → w.taken ≤ v.taken + span_taken (request, reply) + 1 → TakesFew request reply v w

-- when the mark of taken superblocks was last read too few were left for the request's node, and none was taken since
pub record HadNoRoom (request : Request) (w : View) : Type 0 where
  pub past : w.capacity < w.used_look.seen + node_span request
  pub now : w.used_look.taken ≡ w.taken

-- how many of the wanted shards have no table, as loads see it
abbrev pub tables_missing : (ℕ → Bool) → View → ℕ
tables_missing wanted v = count_by (λ shard. wanted shard && not (sees_table v shard)) (words_from (λ i. i) 0 shards)

-- how many of them got one from the first view to the second
abbrev pub tables_made : (ℕ → Bool) → View → View → ℕ
tables_made wanted v w = count_by (λ shard. wanted shard && (sees_table w shard && not (sees_table v shard))) (words_from (λ i. i) 0 shards)

-- and since the first view the puts before it, and so many tables, took no more than this
pub record IsFullBehind (tables : ℕ) (before : List (Request × Reply)) (request : Request) (v w : View) : Type 0 where
  pub room : HadNoRoom request w
  pub taken : w.taken ≤ v.taken + sum_by span_taken before + tables

-- each put that was told that there is no room was so at a moment of the heap from the one state to the other, and
-- nothing was forgotten of the mark since
pub record AreFullRightly {S : Type 0} (view : S → View) (keeps : S → S → Type 0) (tables : ℕ) (rs : List (Request × Reply))
    (s s' : S) : Type 0 where
  pub each : (before later : List (Request × Reply)) (key : ℕ) (value : List ℕ) → rs ≡ before ++ (put key value, full) ∷ later
      → (t : S) × keeps s t × keeps t s' × KnowsNoLess (view t) (view s') × IsFullBehind tables before (put key value) (view s) (view t)

-- since the first view no more superblocks were taken than for the nodes of the puts that were done, for the first of
-- the requests that are left, and for so many tables
pub record HasTakenFew (tables : ℕ) (rs : List (Request × Reply)) (left : List Request) (v w : View) : Type 0 where
  pub taken : w.taken ≤ v.taken + (sum_by span_taken rs + first_span left) + tables

-- so many requests make so many small calls each at most, and so many large ones together (`HasTakenFew` says how many superblocks they take)
pub record MakeFew (requests small large : ℕ) (v w : View) : Type 0 where
  pub goes_on : GoesOn v w
  pub small_from : v.small_calls ≤ w.small_calls
  pub small_few : w.small_calls ≤ v.small_calls + requests * small
  pub large_from : v.large_calls ≤ w.large_calls
  pub large_few : w.large_calls ≤ v.large_calls + large
  pub taken : v.taken ≤ w.taken
  pub looks : KeepsLooks v w
