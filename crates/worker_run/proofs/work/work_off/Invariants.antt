use Rattle.std.proofs.Common.{◌≡◌, ℕ, ◌≤◌, ◌+◌, ◌-◌, ◌*◌, List, length, None, Some, Contains}
use Rattle.std.specs.Vec.{vec_len, vec_capacity}
use Rattle.dict_requests.specs.Reached.{ReachesAllHeld}
use Rattle.dict_model.specs.Requests.{Request, Reply}
use Rattle.run_model.specs.Needs.{ListsKeysOf, put_into}
use Rattle.run_model.specs.Runs.{answered}
use Rattle.run_model.specs.Spending.{AreFullRightly, MakeFew, tables_missing}
use Rattle.run_model.specs.Workers.{worker_requests}
use Rattle.run_model.specs.Working.{HasWorked, HaveRoom, TakesRequests}
use Rattle.shard_moves.specs.Tables.{is_flagged}
use Rattle.worker_run.specs.Said.{requests_of, replies_of}
use Rattle.worker_run.specs.Sending.{GoesByTables, rooms_needed}
use Rattle.worker_run.proofs.SentLemmas.{HasSentSo}
use Rattle.worker_run.proofs.SpendLemmas.{larges_of}
use Rattle.worker_run.proofs.TakenLemmas.{HasTaken}
use Rattle.worker_run.proofs.work.work_off.Given as goal

abbrev pub invariant-loop-request : goal.invariant-loop-request
invariant-loop-request g l = record {
  worked : HasWorked g.image (worker_requests l.fn.worker.workers l.fn.worker.number (requests_of l.fn.requests))
      (worker_requests l.fn.worker.workers l.fn.worker.number (requests_of l.left))
      (replies_of l.replies.items) (g.H.HeapSeat.view l.seat);
  rooms : HaveRoom g.image (requests_of l.fn.requests) (worker_requests l.fn.worker.workers l.fn.worker.number (requests_of l.left)) l.rooms.items;
  reserved : vec_len l.replies + length (worker_requests l.fn.worker.workers l.fn.worker.number (requests_of l.left)) ≤ vec_capacity l.replies;
  shorter : length l.left ≤ length l.fn.requests;
  same_room : vec_capacity l.replies ≡ vec_capacity l.initial.replies;
  taken : HasTaken (worker_requests l.fn.worker.workers l.fn.worker.number (requests_of l.fn.requests))
      (answered (worker_requests l.fn.worker.workers l.fn.worker.number (requests_of l.fn.requests)) (replies_of l.replies.items))
      (g.H.HeapSeat.view l.initial.seat) (g.H.HeapSeat.view l.seat);
  full : AreFullRightly g.H.HeapSeat.view g.O.Outbox.goes (tables_missing
      (put_into (worker_requests l.fn.worker.workers l.fn.worker.number (requests_of l.fn.requests))) (g.H.HeapSeat.view l.initial.seat))
      (answered (worker_requests l.fn.worker.workers l.fn.worker.number (requests_of l.fn.requests)) (replies_of l.replies.items))
      l.initial.seat l.seat;
  calls : (keys : List ℕ) → ListsKeysOf g.image keys
      → MakeFew (length l.replies.items) (33280 + 4 * (length keys + length
      (worker_requests l.fn.worker.workers l.fn.worker.number (requests_of l.fn.requests))))
      (larges_of (answered (worker_requests l.fn.worker.workers l.fn.worker.number (requests_of l.fn.requests)) (replies_of l.replies.items)))
      (g.H.HeapSeat.view l.initial.seat) (g.H.HeapSeat.view l.seat);
  steps : TakesRequests g.H.HeapSeat.view g.O.Outbox.goes g.H.HeapSeat.has_none
      (answered (worker_requests l.fn.worker.workers l.fn.worker.number (requests_of l.fn.requests)) (replies_of l.replies.items))
      l.initial.seat l.seat;
  roots : (g.H.HeapSeat.view l.seat).roots ≡ (g.H.HeapSeat.view l.initial.seat).roots;
  going : (g.H.HeapSeat.view l.initial.seat).stopped ≡ None → (g.H.HeapSeat.view l.seat).stopped ≡ None;
  exact : ReachesAllHeld (g.H.HeapSeat.view l.initial.seat) → ReachesAllHeld (g.H.HeapSeat.view l.seat);
  goes_on : g.O.Outbox.goes l.initial.seat l.seat;
  ready : g.O.Outbox.ready l.outbox l.seat;
  outgoing : rooms_needed (worker_requests l.fn.worker.workers l.fn.worker.number (requests_of l.left)) ≤ g.O.Outbox.room l.outbox;
  sent : HasSentSo g.image l.fn.worker.workers l.fn.worker.number (requests_of l.fn.requests) (requests_of l.left)
      (length l.fn.requests - length l.left)
      (answered (worker_requests l.fn.worker.workers l.fn.worker.number (requests_of l.fn.requests)) (replies_of l.replies.items))
      (replies_of l.replies.items) (g.O.Outbox.sent l.initial.outbox) (g.O.Outbox.sent l.outbox);
  tables : (request : Request) (answer : Reply) → Contains (answered
      (worker_requests l.fn.worker.workers l.fn.worker.number (requests_of l.fn.requests)) (replies_of l.replies.items)) (request, answer)
      → GoesByTables (is_flagged l.fn.tables) request (Some answer);
}

-- the requests that are left
abbrev pub decreases-loop-request : goal.decreases-loop-request
decreases-loop-request g l = length l.left
