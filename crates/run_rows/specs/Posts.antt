-- Passes to the queues of a run's workers, and what a worker has sent.
use Rattle.std.specs.Prelude.{◌≡◌, ℕ, List, filter, flat_map, length, nat_eq}
use Rattle.std.specs.List.Sorted.{IsPermutation}
use Rattle.core_model.specs.View.{View}
use Rattle.dict_model.specs.Nodes.{shard_of}
use Rattle.dict_model.specs.Requests.{Request}
use Rattle.dict_model.specs.Shards.{Map}
use Rattle.heap_table.specs.AtTable.{SharedView}
use Rattle.parcel_queue.specs.Account.{PassView, QueueView}
use Rattle.parcel_queue.specs.Row.{ArePassesOf}
use Rattle.run_model.specs.Arrivals.{IsWholeMap}
use Rattle.run_model.specs.Sending.{Sent, all_sent, worker_numbered}
use Rattle.run_model.specs.Workers.{Replies, worker_numbers, worker_of}
use Rattle.seat_parcels.specs.declared.parcel.Parcel.{Parcel}
use Rattle.seat_parcels.specs.Boxes.{ArePutRightly, HaveParts}
use Rattle.seat_parcels.specs.Parcels.{all_sent_of}
use Rattle.worker_parts.specs.Jobs.{image_of}

-- passes to each of the queues, with so many parts each, by which nothing was taken; what was put by them went to its worker
pub record ArePassesTo (parts : ℕ) (queues : List QueueView) (passes : List (PassView Parcel)) : Type 0 where
  pub passes_are : ArePassesOf queues passes
  pub parts_are : HaveParts parts passes
  pub rightly : ArePutRightly (length queues) 0 passes

-- what a worker's requests send that have these replies
abbrev pub sent_by_worker : ℕ → List Request → Map → ℕ → Replies → List Sent
sent_by_worker workers requests whole worker told = all_sent whole (worker_numbered workers worker requests) told

-- what of it goes to one worker
abbrev pub sent_to : ℕ → ℕ → List Sent → List Sent
sent_to workers worker sent = filter (λ (s : Sent). nat_eq (worker_of workers (shard_of s.key)) worker) sent

-- what all workers send to one
abbrev pub all_sent_to : ℕ → List Request → Map → (ℕ → Replies) → ℕ → List Sent
all_sent_to workers requests whole told worker =
    flat_map (λ from. sent_to workers worker (sent_by_worker workers requests whole from (told from))) (worker_numbers workers)

-- the parcels are what the worker sent by its requests with these replies, in some order
pub record AreSentBy (shared : SharedView) (workers : ℕ) (requests : List Request) (worker : ℕ) (told : Replies) (parcels : List Parcel) : Type 0 where
  pub same : (whole : Map) → IsWholeMap (image_of shared) whole
      → IsPermutation (sent_by_worker workers requests whole worker told) (all_sent_of parcels)

-- the parcels are what all workers sent to this one, in some order
pub record AreSentTo (shared : SharedView) (workers : ℕ) (requests : List Request) (told : ℕ → Replies) (worker : ℕ)
    (parcels : List Parcel) : Type 0 where
  pub same : (whole : Map) → IsWholeMap (image_of shared) whole
      → IsPermutation (all_sent_to workers requests whole told worker) (all_sent_of parcels)

-- the seat has offered as many blocks as the worker sent by its requests with these replies
pub record HasOffered (shared : SharedView) (workers : ℕ) (requests : List Request) (worker : ℕ) (told : Replies) (v : View) : Type 0 where
  pub count : (whole : Map) → IsWholeMap (image_of shared) whole → v.offers ≡ length (sent_by_worker workers requests whole worker told)
