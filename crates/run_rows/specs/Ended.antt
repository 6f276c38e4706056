-- What the workers of a run ended with.
use Rattle.std.specs.Prelude.{◌≡◌, ℕ, ◌+◌, ◌<◌, ◌≤◌, Bool, true, false, List, [], All, Contains, get_or, length}
use Rattle.std.specs.List.Sorted.{IsNonDecreasingBy, IsPermutation}
use Rattle.dict_model.specs.Requests.{Request}
use Rattle.dict_model.specs.Shards.{Map}
use Rattle.heap_rule.specs.Carried.{CarrierView}
use Rattle.heap_table.specs.AtTable.{SharedView}
use Rattle.run_model.specs.Arrivals.{IsWholeMap}
use Rattle.run_model.specs.Sending.{Sent}
use Rattle.run_model.specs.Workers.{Replies}
use Rattle.worker_run.specs.Said.{replies_of}
use Rattle.worker_parts.specs.Jobs.{IsWorkedOf, image_of}
use Rattle.run_rows.specs.declared.arriving.Ended.{Ended}
use Rattle.run_rows.specs.Posts.{HasOffered, all_sent_to}
use Rattle.run_rows.specs.Turns.{AreInTurn}

-- It ended: this came for it, in the order of the requests' numbers, and the first of that is brought in. It accepted
-- the blocks of these, and of the next one at most; the
-- carriers of the others are left, and none where it wasn't stopped.
pub record IsEndedOf (shared : SharedView) (requests : List Request) (tables : ℕ → Bool) (halted : Bool) (told : ℕ → Replies)
    (one : Ended) : Type 0 where
  pub came : List Sent
  pub brought : List Sent
  pub worked : IsWorkedOf shared requests tables came brought halted one.worked
  pub told_is : told one.worked.worker.number ≡ replies_of one.worked.replies.items
  pub sorted : IsNonDecreasingBy (λ (s : Sent). s.number) came
  pub sent : (whole : Map) → IsWholeMap (image_of shared) whole
      → IsPermutation (all_sent_to one.worked.worker.workers requests whole told one.worked.worker.number) came
  pub offered : HasOffered shared one.worked.worker.workers requests one.worked.worker.number (told one.worked.worker.number) one.worked.seat.view
  pub accepted : (length brought ≤ one.worked.seat.view.accepts) × (one.worked.seat.view.accepts ≤ length brought + 1)
  pub remain : one.worked.seat.view.accepts + length one.carriers.items ≡ length came
  pub at_table : (c : CarrierView) → Contains one.carriers.items c → c.table ≡ shared.table
  pub none_left : one.worked.stopped ≡ false → one.carriers.items ≡ []

-- so many workers have ended, the last one first: over the same tables, with the same replies told of each; halted only where one was stopped
pub record HaveEnded (shared : SharedView) (requests : List Request) (workers : ℕ) (ended : List Ended) : Type 0 where
  pub count : length ended ≡ workers
  pub turns : AreInTurn (λ (one : Ended). one.worked.worker) workers ended
  pub tables : ℕ → Bool
  pub halted : Bool
  pub told : ℕ → Replies
  pub each : All (IsEndedOf shared requests tables halted told) ended
  pub halts : halted ≡ true → (at : ℕ) × (at < length ended) × ((any : Ended) → (get_or ended at any).worked.stopped ≡ true)
