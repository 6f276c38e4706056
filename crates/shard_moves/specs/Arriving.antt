-- Values that have arrived are brought in, one after the other.
use Rattle.std.specs.Prelude.{◌≡◌, ◌⊎◌, ℕ, ◌+◌, ◌*◌, List, [], ◌∷◌, ◌++◌, length, Bool, true, false, Contains}
use Rattle.heap_model.specs.Image.{Image}
use Rattle.heap_seat.specs.declared.fault.Looks.{Looks}
use Rattle.heap_seat.specs.Rows.{IsRow}
use Rattle.heap_seat.specs.Tickets.{Runs}
use Rattle.heap_seat.specs.View.{View}
use Rattle.dict_model.specs.Nodes.{shard_of}
use Rattle.dict_model.specs.Requests.{Request, put, Reply, with_key}
use Rattle.dict_requests.specs.Changes.{Changes}
use Rattle.dict_requests.specs.Puts.{RootIsSet}
use Rattle.dict_requests.specs.Removal.{IsShard}
use Rattle.dict_requests.specs.Walks.{ListsKeys}
use Rattle.run_model.specs.Progress.{MayAnswer, HasAnswered}
use Rattle.run_model.specs.Working.{TakesRequests}
use Rattle.run_model.specs.Sending.{Sent, puts_of}

-- each of the values goes to a shard that may be asked, and that has a table
pub record HaveTables (left : List Sent) (v : View) : Type 0 where
  pub shard : (s : Sent) → Contains left s → IsShard v (shard_of s.key)
  pub table : (s : Sent) → Contains left s → RootIsSet v (shard_of s.key)

-- the keys that the shards of these values may have are among these, and so are those that arrive
pub record ListAllKeys (left : List Sent) (v : View) (keys : List ℕ) : Type 0 where
  pub there : (s : Sent) → Contains left s → ListsKeys v (shard_of s.key) keys
  pub coming : (s : Sent) → Contains left s → Contains keys s.key

-- wherever it ended, what was done to bring the value in: its put may be done, and the calls are few
pub record MayArrive (s : Sent) (v w : View) : Type 0 where
  pub may : MayAnswer (put s.key s.value) v w
  pub calls : (keys : List ℕ) → ListsKeys v (shard_of s.key) keys → IsRow (512 + 4 * length keys) 1 0 v w

-- the first of those that were left is brought in
pub record HasArrived (old new : List Sent) (v w : View) : Type 0 where
  pub first : Sent
  pub left_are : old ≡ first ∷ new
  pub runs : Runs v w
  pub changes : Changes (shard_of first.key) (λ map. with_key map first.key first.value) v w
  pub arrives : MayArrive first v w

-- whether there was one: the first is brought in; or none was left, and nothing changes
abbrev pub ArrivesNext : {S : Type 0} → (S → View) → Bool → List Sent → List Sent → S → S → Type 0
ArrivesNext view true old new s t = HasArrived old new (view s) (view t)
ArrivesNext view false old new s t = (old ≡ []) × (new ≡ []) × (t ≡ s)

-- it was stopped at the first of those that were left, which is left still, or has come and is not brought in
pub record StopsAtFirst (old new : List Sent) (v w : View) : Type 0 where
  pub first : Sent
  pub others : List Sent
  pub left_are : old ≡ first ∷ others
  pub still : (new ≡ first ∷ others) ⊎ (new ≡ others)
  pub arrives : MayArrive first v w

-- It was stopped at one of them. Those before it are brought in, one after the other, so that a run has come to the moment before it.
pub record StopsInOne {S : Type 0} (view : S → View) (goes : S → S → Type 0) (has_none : S → S → ℕ → Looks → Type 0) (old new : List Sent)
    (s t : S) : Type 0 where
  pub brought : List Sent
  pub next : Sent
  pub others : List Sent
  pub left_are : old ≡ brought ++ next ∷ others
  pub still : (new ≡ next ∷ others) ⊎ (new ≡ others)
  pub before : S
  pub answered : (image : Image) (rs : List (Request × Reply)) → HasAnswered image rs (view s) → HasAnswered image (rs ++ puts_of brought) (view before)
  pub steps : TakesRequests view goes has_none (puts_of brought) s before
  pub arrives : MayArrive next (view before) (view t)
  pub goes_on : goes before t
