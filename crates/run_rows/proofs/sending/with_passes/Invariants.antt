use Rattle.std.proofs.Common.{◌≡◌, ◌-◌, ◌≤◌, All, [], length, map}
use Rattle.std.specs.Vec.{vec_capacity}
use Rattle.parcel_queue.specs.Account.{all_parts}
use Rattle.seat_parcels.specs.Boxes.{all_put}
use Rattle.worker_run.specs.Said.{requests_of}
use Rattle.run_rows.specs.Posts.{ArePassesTo}
use Rattle.run_rows.specs.Rows.{IsSenderOf}
use Rattle.run_rows.proofs.sending.with_passes.Given as goal

abbrev pub invariant-loop-begun : goal.invariant-loop-begun
invariant-loop-begun g l = record {
  owners : ArePassesTo (all_parts - length l.senders.items) l.queues l.owners.items;
  nothing : all_put l.owners.items ≡ [];
  senders : All (IsSenderOf l._shared (requests_of l.requests) l.queues) l.senders.items;
  begun : map (λ s. s.begun) l.senders.items ≡ l.yielded;
  room : length l.fn.all.items ≤ vec_capacity l.senders;
}
