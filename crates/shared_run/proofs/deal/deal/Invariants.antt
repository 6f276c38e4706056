use Rattle.std.proofs.Common.{◌≡◌, ◌+◌, All, length}
use Rattle.tool_ports.specs.Chances.{ComesFrom}
use Rattle.worker_run.specs.Said.{requests_of}
use Rattle.worker_parts.specs.Jobs.{IsJobOf}
use Rattle.run_rows.specs.Turns.{AreInTurn}
use Rattle.shared_run.specs.Dealing.{AreFresh}
use Rattle.shared_run.specs.Dealt.{AreGiven}
use Rattle.std.specs.Vec.{vec_capacity}
use Rattle.shared_run.proofs.deal.deal.Given as goal

abbrev pub invariant-loop-seat : goal.invariant-loop-seat
invariant-loop-seat g l = record {
  fresh : AreFresh l._shared l.workers l.seats.items;
  jobs : All (IsJobOf l._shared (requests_of l.requests)) l.jobs.items;
  turns : AreInTurn (λ job. job.worker) l.workers l.jobs.items;
  count : length l.jobs.items + length l.seats.items ≡ l.workers;
  workers : l.workers ≡ length l.fn.seats.items;
  room : vec_capacity l.jobs ≡ l.workers;
  comes : ComesFrom g.C.Chances.chance_gives g.C.Chances.word_gives l.fn.chances l.chances;
  given : AreGiven g.C.Chances.chance_gives l.fn.chances l.jobs.items l.chances;
}

abbrev pub decreases-loop-seat : goal.decreases-loop-seat
decreases-loop-seat g l = length l.seats.items
