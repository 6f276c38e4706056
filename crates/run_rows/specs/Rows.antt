-- A run's workers from row to row: with passes to the queues, with their requests worked off, and with what came for them.
use Rattle.std.specs.Prelude.{◌≡◌, ℕ, ◌<◌, ◌≤◌, Bool, false, true, List, [], ◌++◌, All, get_or, length, map, reverse, zip}
use Rattle.std.specs.List.{AllZip}
use Rattle.std.specs.declared.result.Result.{Result}
use Rattle.std.specs.declared.result.Result.TheVariants.{Ok}
use Rattle.std.specs.Vec.{vec_capacity}
use Rattle.dict_model.specs.Links.{shards}
use Rattle.dict_model.specs.Requests.{Request}
use Rattle.heap_table.specs.AtTable.{SharedView}
use Rattle.parcel_queue.specs.Account.{PassView, QueueView, all_parts}
use Rattle.run_model.specs.Needs.{is_target_of}
use Rattle.run_model.specs.Workers.{Replies, worker_requests}
use Rattle.shard_moves.specs.Tables.{is_flagged}
use Rattle.worker_run.specs.Said.{replies_of}
use Rattle.worker_run.specs.Sending.{rooms_needed}
use Rattle.seat_parcels.specs.declared.parcel.Parcel.{Parcel}
use Rattle.seat_parcels.specs.Boxes.{all_put}
use Rattle.seat_parcels.specs.Parcels.{IsParcelOf}
use Rattle.worker_parts.specs.declared.asking.Asked.{Asked}
use Rattle.worker_parts.specs.declared.beginning.Begun.{Begun}
use Rattle.worker_parts.specs.Jobs.{HasTableFor, IsAskedOf, IsBegunOf}
use Rattle.run_rows.specs.declared.arriving.Arriving.{Arriving}
use Rattle.run_rows.specs.declared.sending.Posted.{Posted}
use Rattle.run_rows.specs.declared.sending.Sender.{Sender}
use Rattle.run_rows.specs.Posts.{ArePassesTo, AreSentBy, AreSentTo, HasOffered}

-- what is told of the shards of all workers is what the worker was told of its own that values are moved to
pub record AgreesWith {C : Type 0} (tables : ℕ → Bool) (requests : List Request) (begun : Begun C) : Type 0 where
  pub each : (shard : ℕ) → shard < shards → is_target_of begun.worker.workers begun.worker.number requests shard ≡ true
      → tables shard ≡ is_flagged begun.tables shard

-- a worker that has begun and wasn't stopped, with unused passes to the queues, and room for as many nodes as its moves may send
pub record IsSenderOf {C : Type 0} (shared : SharedView) (requests : List Request) (queues : List QueueView) (sender : Sender C) : Type 0 where
  pub begun : IsBegunOf shared requests sender.begun
  pub going : sender.begun.stopped ≡ false
  pub passes : ArePassesTo 1 queues sender.passes.items
  pub nothing : all_put sender.passes.items ≡ []
  pub empty : sender.kept.items ≡ []
  pub room : rooms_needed (worker_requests sender.begun.worker.workers sender.begun.worker.number requests) ≤ vec_capacity sender.kept

-- all that a worker has sent: what was put by its passes, and what no queue took
abbrev pub parcels_by : {C : Type 0} → Posted C → List Parcel
parcels_by one = all_put one.passes.items ++ one.kept.items

-- its requests are worked off: what they sent was put by its passes or kept, it has offered as many blocks as that and accepted none
pub record IsPostedOf {C : Type 0} (shared : SharedView) (requests : List Request) (tables : ℕ → Bool) (queues : List QueueView)
    (one : Posted C) : Type 0 where
  pub asked : IsAskedOf shared requests tables one.asked
  pub passes : ArePassesTo 1 queues one.passes.items
  pub kept : All (IsParcelOf shared.table) one.kept.items
  pub sent : AreSentBy shared one.asked.worker.workers requests one.asked.worker.number (replies_of one.asked.replies.items) (parcels_by one)
  pub offered : one.asked.seat.state.view.offers ≡ length (parcels_by one)
  pub none_accepted : one.asked.seat.state.view.accepts ≡ 0

-- the same worker with its own queue's pass, with all parts, and what was kept for it: both together are what all workers sent to it
pub record IsArrivingOf {C : Type 0} (shared : SharedView) (requests : List Request) (tables : ℕ → Bool) (queues : List QueueView) (told : ℕ → Replies)
    (one : Arriving C) : Type 0 where
  pub asked : IsAskedOf shared requests tables one.asked
  pub told_is : told one.asked.worker.number ≡ replies_of one.asked.replies.items
  pub offered : HasOffered shared one.asked.worker.workers requests one.asked.worker.number (told one.asked.worker.number) one.asked.seat.state.view
  pub none_accepted : one.asked.seat.state.view.accepts ≡ 0
  pub queue : (any : QueueView) → one.pass.queue ≡ (get_or queues one.asked.worker.number any).queue
  pub parts : one.pass.account.parts ≡ all_parts
  pub none_taken : one.pass.account.taken ≡ []
  pub kept : All (IsParcelOf shared.table) one.kept.items
  pub sent : AreSentTo shared one.asked.worker.workers requests told one.asked.worker.number (one.pass.account.put ++ one.kept.items)
  pub with_table : All (λ (p : Parcel). HasTableFor tables requests one.asked.worker.workers one.asked.worker.number p.key)
      (one.pass.account.put ++ one.kept.items)

-- each worker got its own queue's pass and piece of what was kept: the last worker comes first, and the last pass and piece are its own
abbrev pub AreDealtOut : {C : Type 0} → List (PassView Parcel) → List (List Parcel) → List (Asked C) → List (Arriving C) → Type 0
AreDealtOut owners pieces all arriving =
    AllZip (λ (one : Arriving _) (x : Asked _ × (PassView Parcel × List Parcel)). (one.asked ≡ x.0) × (one.pass ≡ x.1.0) × (one.kept.items ≡ x.1.1))
    arriving (zip all (zip (reverse owners) (reverse pieces)))

-- no answer was that memory is short
abbrev pub AreAllOk : {T E : Type 0} → List (Result T E) → List T → Type 0
AreAllOk all values = all ≡ map Ok values
