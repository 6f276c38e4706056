-- What a worker's seat did for its requests.
use Rattle.std.specs.Prelude.{◌≡◌, ◌≢◌, ℕ, ◌+◌, ◌*◌, ◌↔◌, Bool, true, false, List, [], length, sum_by, None, Some, Contains}
use Rattle.heap_model.specs.Image.{Image}
use Rattle.heap_seat.specs.declared.fault.Looks.{Looks}
use Rattle.heap_seat.specs.View.{View}
use Rattle.dict_model.specs.Requests.{Request, Reply}
use Rattle.dict_requests.specs.Reached.{ReachesAllHeld}
use Rattle.seat_model.specs.CacheState.{CacheState, heap_view}
use Rattle.run_model.specs.Needs.{ListsKeysOf, put_into}
use Rattle.run_model.specs.Runs.{answered, unanswered}
use Rattle.run_model.specs.Spending.{AreFullRightly, HasTakenFew, MakeFew, tables_missing}
use Rattle.run_model.specs.Workers.{Replies}
use Rattle.run_model.specs.Working.{HasStopped, HasWorked, IsUnderWay, TakesRequests, large_calls_of}
use Rattle.worker_run.specs.Sending.{GoesByTables}
use Rattle.worker_parts.specs.Going.{GoesOn, TurnsAway}

-- From the one state to the other a seat of any kind executed its requests, over these tables, with these replies, or was stopped in one. What goes
-- on of it is given, and what is so where a request is turned away.
pub record HasExecutedOf {S : Type 0} (view : S → View) (goes : S → S → Type 0) (has_none : S → S → ℕ → Looks → Type 0) (image : Image)
    (mine : List Request)
    (tables : ℕ → Bool) (replies : Replies) (stopped : Bool) (s t : S) : Type 0 where
  pub worked : stopped ≡ false → HasWorked image mine [] replies (view t)
  pub in_one : stopped ≡ true → HasStopped image mine replies (view t)
  pub full : AreFullRightly view goes (tables_missing (put_into mine) (view s)) (answered mine replies) s t
  pub taken : HasTakenFew (tables_missing (put_into mine) (view s)) (answered mine replies) (unanswered mine replies) (view s) (view t)
  pub few : (keys : List ℕ) → ListsKeysOf image keys
      → MakeFew (length mine) (33280 + 4 * (length keys + length mine)) (sum_by large_calls_of mine) (view s) (view t)
  pub by_tables : (request : Request) (reply : Reply) → Contains (answered mine replies) (request, reply) → GoesByTables tables request (Some reply)
  pub steps : (u : S) × TakesRequests view goes has_none (answered mine replies) s u × IsUnderWay (unanswered mine replies) (view u) (view t) × goes u t
  pub roots_are : (view t).roots ≡ (view s).roots
  pub goes_on : goes s t
  pub stops : (stopped ≡ true) ↔ ((view t).stopped ≢ None)
  pub exact : stopped ≡ false → ReachesAllHeld (view t)

-- so did a worker's seat
abbrev pub HasExecuted : Image → List Request → (ℕ → Bool) → Replies → Bool → CacheState → CacheState → Type 0
HasExecuted image mine tables replies stopped s t = HasExecutedOf heap_view GoesOn TurnsAway image mine tables replies stopped s t
