-- What a worker of a run begins with, how it goes on, and what it ends with.
use Rattle.std.specs.Prelude.{◌≡◌, ◌⊎◌, ℕ, ◌<◌, ◌≤◌, Bool, true, false, List, [], ◌∷◌, length, slice_index}
use Rattle.std.specs.Vec.{vec_capacity}
use Rattle.heap_table.specs.AtTable.{SharedView}
use Rattle.heap_table.specs.Rule.{setup_for}
use Rattle.heap_rule.specs.Seated.{IsSeatOf, SeatView}
use Rattle.dict_model.specs.Nodes.{shard_of}
use Rattle.dict_model.specs.Requests.{Request}
use Rattle.seat_model.specs.CacheState.{CacheState}
use Rattle.run_model.specs.Needs.{is_target_of}
use Rattle.run_model.specs.Sending.{Sent}
use Rattle.run_model.specs.Workers.{Replies, worker_requests}
use Rattle.run_model.specs.Working.{HaveRoom}
use Rattle.shard_moves.specs.Tables.{is_flagged}
use Rattle.worker_run.specs.Said.{replies_of}
use Rattle.worker_parts.specs.declared.arriving.Worked.{Worked}
use Rattle.worker_parts.specs.declared.asking.Asked.{Asked}
use Rattle.worker_parts.specs.declared.beginning.Begun.{Begun}
use Rattle.worker_parts.specs.declared.beginning.Job.{Job}
use Rattle.worker_parts.specs.Asking.{HasExecuted}
use Rattle.worker_parts.specs.Begun.{IsOpenedFor, IsBegun}
use Rattle.worker_parts.specs.Going.{IsUnused}
use Rattle.worker_parts.specs.Parts.{IsPart}

-- the job is one worker's: its seat was just opened for it, there is room for each of its requests, and it has no reply yet
pub record IsJobOf {C : Type 0} (shared : SharedView) (requests : List Request) (job : Job C) : Type 0 where
  pub below : job.worker.number < job.worker.workers
  pub seat : IsSeatOf shared job.seat
  pub fresh : IsOpenedFor shared.opening job.worker.workers job.worker.number job.seat.view
  pub rooms : HaveRoom (slice_index job.seat.view.setup.opened) requests (worker_requests job.worker.workers job.worker.number requests) job.rooms.items
  pub empty : job.replies.items ≡ []
  pub reserved : length (worker_requests job.worker.workers job.worker.number requests) ≤ vec_capacity job.replies

-- a worker's first state: its seat was just opened for it, and has made no call
pub record IsFirst (shared : SharedView) (workers worker : ℕ) (s : CacheState) : Type 0 where
  pub below : worker < workers
  pub table : s.table ≡ shared.table
  pub setup : s.view.setup ≡ setup_for shared.opening
  pub fresh : IsOpenedFor shared.opening workers worker s.view
  pub unused : IsUnused s

-- the image that the heap was opened with
abbrev pub image_of : SharedView → ℕ → ℕ
image_of shared = slice_index (setup_for shared.opening).opened

-- The worker's tables are made; where it was stopped in that, nothing is told of them. There is room for each of its
-- requests, and it has no reply yet.
pub record IsBegunOf {C : Type 0} (shared : SharedView) (requests : List Request) (begun : Begun C) : Type 0 where
  pub first : CacheState
  pub is_first : IsFirst shared begun.worker.workers begun.worker.number first
  pub part : IsBegun (image_of shared) (is_target_of begun.worker.workers begun.worker.number requests)
      (is_flagged begun.tables) begun.stopped first begun.seat.state
  pub rooms : HaveRoom (image_of shared) requests (worker_requests begun.worker.workers begun.worker.number requests) begun.rooms.items
  pub empty : begun.replies.items ≡ []
  pub reserved : length (worker_requests begun.worker.workers begun.worker.number requests) ≤ vec_capacity begun.replies

-- the worker's tables are made, which are among these, and it has worked off its requests, or was stopped in one
pub record IsAskedOf {C : Type 0} (shared : SharedView) (requests : List Request) (tables : ℕ → Bool) (asked : Asked C) : Type 0 where
  pub first : CacheState
  pub begun : CacheState
  pub is_first : IsFirst shared asked.worker.workers asked.worker.number first
  pub made : IsBegun (image_of shared) (is_target_of asked.worker.workers asked.worker.number requests) tables false first begun
  pub part : HasExecuted (image_of shared) (worker_requests asked.worker.workers asked.worker.number requests) tables
      (replies_of asked.replies.items) asked.stopped
      begun asked.seat.state

-- the key's shard is one of the worker's that values are moved to, and is told to have a table
pub record HasTableFor (tables : ℕ → Bool) (requests : List Request) (workers worker key : ℕ) : Type 0 where
  pub table : tables (shard_of key) ≡ true
  pub target : is_target_of workers worker requests (shard_of key) ≡ true

-- of the values that were left to be brought in these are left now: all of them, or all but the first one, which has come and is not brought in
abbrev pub AreLeftOf : List Sent → List Sent → Type 0
AreLeftOf later left = (left ≡ later) ⊎ ((next : Sent) × (later ≡ next ∷ left))

-- the seat of a worker did its part of the run: it has these replies, this came for it and the first values of it are
-- brought in, and it was stopped or not
pub record IsPartOf (shared : SharedView) (requests : List Request) (workers worker : ℕ) (tables : ℕ → Bool) (seat : SeatView) (replies : Replies)
    (came brought : List Sent) (halted stopped : Bool) : Type 0 where
  pub seat_of : IsSeatOf shared seat
  pub first : CacheState
  pub last : CacheState
  pub fresh : IsOpenedFor shared.opening workers worker first.view
  pub last_is : last.view ≡ seat.view
  pub part : IsPart (image_of shared) workers requests worker tables replies came brought halted stopped first last

-- so did this one
pub record IsWorkedOf (shared : SharedView) (requests : List Request) (tables : ℕ → Bool) (came brought : List Sent) (halted : Bool)
    (worked : Worked) : Type 0 where
  pub part : IsPartOf shared requests worked.worker.workers worked.worker.number tables worked.seat
      (replies_of worked.replies.items) came brought halted worked.stopped
