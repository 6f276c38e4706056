-- The seats of a run's workers as they are dealt out, and their replies.
use Rattle.std.specs.Prelude.{ℕ, ◌<◌, List, length, get_or, replicate, ◌++◌, ◌-◌, None}
use Rattle.std.specs.declared.alloc.Global.{Global}
use Rattle.std.specs.declared.collections.VecDeque.{VecDeque}
use Rattle.dict_model.specs.Requests.{Request}
use Rattle.run_model.specs.Workers.{Replies, worker_requests}
use Rattle.heap_table.specs.AtTable.{SharedView}
use Rattle.heap_rule.specs.Seated.{IsSeatOf, SeatView}
use Rattle.worker_run.specs.Said.{Told}
use Rattle.worker_parts.specs.Begun.{IsOpenedFor}

-- each seat is that of the worker of its place, of so many
pub record AreFresh (shared : SharedView) (workers : ℕ) (seats : List SeatView) : Type 0 where
  pub each : (i : ℕ) (any : SeatView) → i < length seats → IsSeatOf shared (get_or seats i any)
      × IsOpenedFor shared.opening workers i (get_or seats i any).view

-- what is left of the replies of a worker, the first one in front
abbrev pub Queue : Type 0
Queue = VecDeque Told Global

-- a worker's replies, with the requests that are left, once the rest of these stands as unanswered
abbrev pub padded : ℕ → ℕ → List Request → Replies → Replies
padded workers worker requests replies = replies ++ replicate (length (worker_requests workers worker requests) - length replies) None
