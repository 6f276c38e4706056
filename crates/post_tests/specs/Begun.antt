-- The first of two workers as it is to send, and who takes.
use Rattle.std.specs.Prelude.{◌≡◌, false, List, [], ◌∷◌, length}
use Rattle.dict_model.specs.Requests.{Request, get, move, put}
use Rattle.heap_table.specs.AtTable.{SharedView}
use Rattle.parcel_queue.specs.Account.{PassView, QueueView}
use Rattle.run_rows.specs.Posts.{ArePassesTo}
use Rattle.seat_parcels.specs.Boxes.{all_put}
use Rattle.seat_parcels.specs.declared.parcel.Parcel.{Parcel}
use Rattle.worker_parts.specs.declared.beginning.Begun.{Begun}
use Rattle.worker_parts.specs.Jobs.{IsBegunOf}

-- a put, a move of its key to one of a shard of the other worker, and a request behind that
abbrev pub move_among_others : List Request
move_among_others = put 0 [] ∷ move 0 1 ∷ get 0 ∷ []

-- it is the first of two workers, has begun, and wasn't stopped
pub record IsFirstOf {C : Type 0} (shared : SharedView) (requests : List Request) (begun : Begun C) : Type 0 where
  pub trace : requests ≡ move_among_others
  pub begun_of : IsBegunOf shared requests begun
  pub number : begun.worker.number ≡ 0
  pub workers : begun.worker.workers ≡ 2
  pub going : begun.stopped ≡ false

-- two queues, and its passes to them, by which nothing was put
pub record AreUnused (queues : List QueueView) (passes : List (PassView Parcel)) : Type 0 where
  pub two : length queues ≡ 2
  pub to_them : ArePassesTo 1 queues passes
  pub nothing : all_put passes ≡ []

-- a pass to this queue
pub record IsPassTo (to : QueueView) (pass : PassView Parcel) : Type 0 where
  pub queue : pass.queue ≡ to.queue
  pub part : pass.account.parts ≡ 1
