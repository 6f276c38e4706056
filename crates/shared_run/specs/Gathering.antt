-- What the workers of a run ended with, put together: their seats and replies in their order, and the carriers that are left.
use Rattle.std.specs.Prelude.{◌≡◌, ℕ, ◌+◌, ◌<◌, ◌≤◌, ◌↔◌, Bool, true, false, List, [], Contains, get_or, length, sum_by}
use Rattle.std.specs.List.Sorted.{IsNonDecreasingBy, IsPermutation}
use Rattle.dict_model.specs.Requests.{Request}
use Rattle.dict_model.specs.Shards.{Map}
use Rattle.heap_rule.specs.Carried.{CarrierView}
use Rattle.heap_rule.specs.Seated.{SeatView}
use Rattle.heap_table.specs.AtTable.{SharedView}
use Rattle.run_model.specs.Arrivals.{IsWholeMap}
use Rattle.run_model.specs.Sending.{Sent}
use Rattle.run_model.specs.Workers.{Replies, worker_numbers}
use Rattle.run_rows.specs.Posts.{HasOffered, all_sent_to}
use Rattle.worker_run.specs.Said.{replies_of}
use Rattle.worker_parts.specs.Jobs.{IsPartOf, image_of}
use Rattle.shared_run.specs.Dealing.{Queue}

-- each of the workers did its part, with the seat and the replies of its place: what came for it is what all of them
-- sent to it, in the order of the requests'
-- numbers; it has offered what it sent, and accepted what is brought in, and the next one at most; a carrier is left of each other one that came
pub record AreParts (shared : SharedView) (requests : List Request) (workers : ℕ) (seats : List SeatView) (told : List Queue)
    (carriers : List CarrierView)
    (stopped : Bool) : Type 0 where
  pub seats_long : length seats ≡ workers
  pub told_long : length told ≡ workers
  pub tables : ℕ → Bool
  pub halted : Bool
  pub replies : ℕ → Replies
  pub came : ℕ → List Sent
  pub brought : ℕ → List Sent
  pub stops : ℕ → Bool
  pub remaining : ℕ → ℕ
  pub told_are : (i : ℕ) (any : Queue) → i < workers → replies i ≡ replies_of (get_or told i any).items
  pub each : (i : ℕ) (any : SeatView) → i < workers
      → IsPartOf shared requests workers i tables (get_or seats i any) (replies i) (came i) (brought i) halted (stops i)
  pub sorted : (i : ℕ) → i < workers → IsNonDecreasingBy (λ (s : Sent). s.number) (came i)
  pub sent : (i : ℕ) → i < workers → (whole : Map) → IsWholeMap (image_of shared) whole
      → IsPermutation (all_sent_to workers requests whole replies i) (came i)
  pub offered : (i : ℕ) (any : SeatView) → i < workers → HasOffered shared workers requests i (replies i) (get_or seats i any).view
  pub accepted : (i : ℕ) (any : SeatView) → i < workers
      → (length (brought i) ≤ (get_or seats i any).view.accepts) × ((get_or seats i any).view.accepts ≤ length (brought i) + 1)
  pub remain : (i : ℕ) (any : SeatView) → i < workers → (get_or seats i any).view.accepts + remaining i ≡ length (came i)
  pub carriers_are : length carriers ≡ sum_by remaining (worker_numbers workers)
  pub at_table : (c : CarrierView) → Contains carriers c → c.table ≡ shared.table
  pub none_left : stopped ≡ false → carriers ≡ []
  pub halts : halted ≡ true → stopped ≡ true
  pub stopped_by : (stopped ≡ true) ↔ ((i : ℕ) × (i < workers) × (stops i ≡ true))
