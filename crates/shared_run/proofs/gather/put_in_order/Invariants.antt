use Rattle.std.proofs.Common.{◌≡◌, length, get_or, take, drop}
use Rattle.std.specs.Vec.{vec_capacity}
use Rattle.worker_run.specs.Said.{requests_of, replies_of}
use Rattle.shared_run.specs.Dealing.{Queue}
use Rattle.shared_run.proofs.MergeLemmas.{AreMerged}
use Rattle.shared_run.proofs.gather.put_in_order.Given as goal

abbrev pub invariant-loop-request : goal.invariant-loop-request
invariant-loop-request l = record {
  merged : (any : Queue) → AreMerged (length l.fn.told.items) (requests_of l.fn.requests) (requests_of (take l.request-index l.requests))
      (requests_of (drop l.request-index l.requests)) (replies_of l.replies.items)
      (λ worker. replies_of (get_or l.fn.told.items worker any).items) (λ worker. replies_of (get_or l.told.items worker any).items);
  count : length l.told.items ≡ length l.fn.told.items;
  long : length l.replies.items ≡ l.request-index;
  room : vec_capacity l.replies ≡ vec_capacity l.initial.replies;
}
