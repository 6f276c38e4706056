-- How far a worker has come in its requests and in what came for it, and where it was stopped.
use Rattle.std.specs.Prelude.{◌≡◌, Bool, true, false, List, [], ◌∷◌, ◌++◌, map, Some}
use Rattle.heap_model.specs.Image.{Image}
use Rattle.heap_seat.specs.Sound.{IsSeat}
use Rattle.heap_seat.specs.View.{View}
use Rattle.dict_model.specs.Requests.{Request, put, Reply}
use Rattle.run_model.specs.Progress.{MayAnswer, HasAnswered}
use Rattle.run_model.specs.Sending.{Sent, puts_of}
use Rattle.run_model.specs.Workers.{Replies}
use Rattle.run_model.specs.Working.{IsUnderWay, TakesRequests}
use Rattle.seat_model.specs.CacheState.{CacheState, heap_view}
use Rattle.shard_moves.specs.Arriving.{MayArrive}
use Rattle.worker_parts.specs.Going.{GoesOn, TurnsAway, HasSettled}

-- where it was when its work ended: at rest behind all of it; not begun, since a worker was stopped before the first request; or stopped in the first
-- request that is left, or in the first value that is left to be brought in
pub data EndsIn (left : List Request) (brought later : List Sent) (halted stopped : Bool) (v w : View) : Type 0 where
  at_rest : halted ≡ false → left ≡ [] → later ≡ [] → w ≡ v → EndsIn left brought later halted stopped v w
  not_begun : halted ≡ true → brought ≡ [] → w ≡ v → EndsIn left brought later halted stopped v w
  in_request : halted ≡ false → stopped ≡ true → brought ≡ [] → (request : Request) (others : List Request) → left ≡ request ∷ others
      → MayAnswer request v w
      → EndsIn left brought later halted stopped v w
  in_arrival : halted ≡ false → stopped ≡ true → left ≡ [] → (next : Sent) (others : List Sent) → later ≡ next ∷ others
      → MayAnswer (put next.key next.value) v w
      → EndsIn left brought later halted stopped v w

-- These requests have these replies, none where it is not begun; and of what came the first values are brought in, as
-- puts that are done. Then it ended.
pub record HasEnded (image : Image) (requests : List Request) (replies : Replies) (came brought : List Sent) (halted stopped : Bool)
    (v : View) : Type 0 where
  pub rs : List (Request × Reply)
  pub left : List Request
  pub later : List Sent
  pub requests_are : requests ≡ map (λ r. r.0) rs ++ left
  pub replies_are : replies ≡ map (λ r. Some r.1) rs
  pub came_are : came ≡ brought ++ later
  pub before : View
  pub seat : IsSeat before
  pub answered : HasAnswered image (rs ++ puts_of brought) before
  pub unbegun : halted ≡ true → rs ≡ []
  pub ends : EndsIn left brought later halted stopped before v

-- what was done of the values that are left to be brought in: nothing where none is left, and else a part of the first one, by few calls
abbrev pub IsArriving : List Sent → View → View → Type 0
IsArriving [] v w = w ≡ v
IsArriving (s ∷ later) v w = MayArrive s v w

-- what was done behind the last answer or value: a part of the first request that is left, and where none is left, of the first value that is
abbrev pub IsBehind : List Request → List Sent → View → View → Type 0
IsBehind [] later v w = IsArriving later v w
IsBehind (request ∷ others) later v w = IsUnderWay (request ∷ others) v w

-- Behind the last answer or value it was stopped in the next one, or nothing was left and its caches were to be
-- emptied. One that was halted is left as it is.
pub record SettlesBehind (left : List Request) (later : List Sent) (halted after : Bool) (s t : CacheState) : Type 0 where
  pub worked : CacheState
  pub goes_on : GoesOn s worked
  pub under_way : halted ≡ false → IsBehind left later (heap_view s) (heap_view worked)
  pub before : Bool
  pub all : halted ≡ false → before ≡ false → (left ≡ []) × (later ≡ [])
  pub settled : halted ≡ false → HasSettled before after worked t
  pub left_as_is : halted ≡ true → (worked ≡ s) × (t ≡ worked)

-- The seat's states from the first one to the last: once its tables are made, once its requests are answered, one by
-- one, once the first values are brought in, each as a put
-- that is done, and at the end.
pub record HasStepped (rs : List (Request × Reply)) (brought : List Sent) (left : List Request) (later : List Sent) (halted stopped : Bool)
    (s t : CacheState) : Type 0 where
  pub begun : CacheState
  pub asked : CacheState
  pub arrived : CacheState
  pub tables : GoesOn s begun
  pub requests : TakesRequests heap_view GoesOn TurnsAway rs begun asked
  pub arrivals : TakesRequests heap_view GoesOn TurnsAway (puts_of brought) asked arrived
  pub settles : SettlesBehind left later halted stopped arrived t
