-- What a worker's seat did for one request, on the way from one of its states to another.
use Rattle.dict_model.specs.Requests.{Request, Reply}
use Rattle.run_model.specs.Working.{TakesRequest, WasRefused}
use Rattle.seat_model.specs.CacheState.{CacheState, heap_view}
use Rattle.worker_parts.specs.Going.{GoesOn, TurnsAway}

-- between two states on the way the seat worked off this request, with this reply
pub record WasTakenIn (request : Request) (reply : Reply) (s t : CacheState) : Type 0 where
  pub before : CacheState
  pub after : CacheState
  pub goes_before : GoesOn s before
  pub takes : TakesRequest heap_view GoesOn TurnsAway request reply before after
  pub goes_after : GoesOn after t

-- between two states on the way the seat turned down one request for a block that this request made to it: for its node, or for a table
pub record WasTurnedDownIn (request : Request) (s t : CacheState) : Type 0 where
  pub before : CacheState
  pub after : CacheState
  pub goes_before : GoesOn s before
  pub refused : WasRefused heap_view GoesOn TurnsAway request before after
  pub goes_after : GoesOn after t
