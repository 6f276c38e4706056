-- What the seat of one worker of a run did, from the state in which it was opened to its last one.
use Rattle.std.specs.Prelude.{◌≡◌, ◌≢◌, ℕ, ◌+◌, ◌*◌, ◌<◌, ◌≤◌, ◌↔◌, Bool, true, false, List, [], length, sum_by, None, Some, Contains}
use Rattle.heap_model.specs.Geometry.{roots, root_word}
use Rattle.heap_model.specs.Image.{Image}
use Rattle.heap_seat.specs.Looks.{KnowsNoLess}
use Rattle.dict_model.specs.Links.{shards}
use Rattle.dict_model.specs.Requests.{Request, Reply}
use Rattle.dict_requests.specs.Reached.{ReachesAllHeld}
use Rattle.seat_model.specs.CacheState.{CacheState, heap_view}
use Rattle.thread_cache.specs.Quiet.{HasEmptyCaches}
use Rattle.run_model.specs.Needs.{ListsKeysOf, is_target_of, targets_of, worker_tables, puts_among}
use Rattle.run_model.specs.Runs.{answered, unanswered}
use Rattle.run_model.specs.Sending.{Sent}
use Rattle.run_model.specs.Spending.{AreFullRightly, HasTakenFew}
use Rattle.run_model.specs.Workers.{Replies, root_owner, worker_requests}
use Rattle.run_model.specs.Working.{large_calls_of}
use Rattle.shard_moves.specs.Tables.{HadNoTableRoom, RootIsNull, TellsTable}
use Rattle.worker_run.specs.Sending.{GoesByTables}
use Rattle.worker_parts.specs.Ending.{HasEnded, HasStepped}
use Rattle.worker_parts.specs.Going.{GoesOn, IsUnused, TurnsAway}

-- so many calls of a seat since it was opened: those of tables, of its own requests and of what came, over an image of
-- so many keys, and one that empties its caches
pub record SpendsFew (tables : ℕ) (mine : List Request) (came keys : ℕ) (t : CacheState) : Type 0 where
  pub small : t.small_calls ≤ 512 * tables + length mine * (33280 + 4 * (keys + length mine)) + came * (512 + 4 * (keys + puts_among mine + came))
  pub large : t.large_calls ≤ tables + sum_by large_calls_of mine + came + 1

-- from the state behind the last answer on, so many calls of a seat: those that bring in what came, over an image of so
-- many keys, and one that empties its caches
pub record ArrivalsAreFew (mine : List Request) (came keys : ℕ) (s t : CacheState) : Type 0 where
  pub small : t.small_calls ≤ s.small_calls + came * (512 + 4 * (keys + puts_among mine + came))
  pub large : t.large_calls ≤ s.large_calls + came + 1

-- The shard has no table in the image. At a moment from the one state to the other it had none still, and none was left for it; nothing was
-- forgotten of the mark since, and until then the seat had taken so many superblocks at most.
pub record LacksTable (image : Image) (tables shard : ℕ) (s t : CacheState) : Type 0 where
  pub null : image (root_word shard) ≡ 0
  pub at : CacheState
  pub before : GoesOn s at
  pub behind : GoesOn at t
  pub none_yet : RootIsNull (heap_view at) shard
  pub knows : KnowsNoLess (heap_view at) (heap_view t)
  pub room : HadNoTableRoom (heap_view at)
  pub taken : at.view.taken ≤ s.view.taken + tables

-- One worker's part of a run, over which it is told of each shard whether it has a table. These replies it gave, this came for it by moves, and of
-- that it brought in the first values. It is halted where a worker was stopped before the first request; else it is told of each shard of its own
-- that values are moved to whether it has a table before the first request. A flag that is false says that it has none, and that one was refused.
pub record IsPart (image : Image) (workers : ℕ) (requests : List Request) (worker : ℕ) (tables : ℕ → Bool) (replies : Replies)
    (came brought : List Sent)
    (halted stopped : Bool) (s t : CacheState) : Type 0 where
  pub roots_own : (root : ℕ) → root < roots → Contains t.view.roots root ↔ (root_owner workers root ≡ worker)
  pub unused : IsUnused s
  pub goes_on : GoesOn s t
  pub ended : HasEnded image (worker_requests workers worker requests) replies came brought halted stopped (heap_view t)
  pub steps : HasStepped (answered (worker_requests workers worker requests) replies) brought
      (unanswered (worker_requests workers worker requests) replies) ended.later
      halted stopped s t
  pub few : (keys : List ℕ) → ListsKeysOf image keys → SpendsFew (targets_of workers worker requests) (worker_requests workers worker requests)
      (length came) (length keys) t
  pub arrivals_few : unanswered (worker_requests workers worker requests) replies ≡ [] → (keys : List ℕ) → ListsKeysOf image keys
      → ArrivalsAreFew (worker_requests workers worker requests) (length came) (length keys) steps.asked t
  pub full : AreFullRightly heap_view GoesOn (worker_tables workers worker requests) (answered (worker_requests workers worker requests) replies) s t
  pub lacks : halted ≡ false → (shard : ℕ) → shard < shards → is_target_of workers worker requests shard ≡ true → tables shard ≡ false
      → LacksTable image (worker_tables workers worker requests) shard s t
  pub told : halted ≡ false → (shard : ℕ) → shard < shards → is_target_of workers worker requests shard ≡ true
      → TellsTable heap_view GoesOn TurnsAway shard (tables shard) s steps.begun
  pub going : halted ≡ false → steps.begun.view.stopped ≡ None
  pub by_tables : (request : Request) (reply : Reply) → Contains (answered (worker_requests workers worker requests) replies) (request, reply)
      → GoesByTables tables request (Some reply)
  pub taken : HasTakenFew (worker_tables workers worker requests) (answered (worker_requests workers worker requests) replies)
      (unanswered (worker_requests workers worker requests) replies) (heap_view s) (heap_view t)
  pub stops : (stopped ≡ true) ↔ (t.view.stopped ≢ None)
  pub emptied : halted ≡ false → stopped ≡ false → HasEmptyCaches t
  pub exact : stopped ≡ false → ReachesAllHeld (heap_view t)
