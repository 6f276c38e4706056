use Rattle.std.proofs.Common.{subst}
use Rattle.worker_run.specs.Said.{requests_of, replies_of}
use Rattle.shard_moves.specs.Tables.{is_flagged}
use Rattle.run_model.specs.Workers.{worker_requests}
use Rattle.worker_parts.specs.Asking.{HasExecuted}
use Rattle.worker_parts.specs.Jobs.{image_of}
use Rattle.worker_parts.proofs.WholeLemmas.{left_part}
use Rattle.worker_parts.proofs.arriving.leave.Goals as goal

pub returns-clause-worked : goal.returns-clause-worked
returns-clause-worked g c came =
    let is = c.requires.asked in
    let w = c.args.asked.worker in
    let qs = requests_of c.args._requests.now in
    let back = c.into_seat.ensures in
    record {
      part = left_part c.args._shared.now qs w.workers w.number (is_flagged c.args._tables.now)
          (replies_of c.args.asked.replies.items) is.first is.begun c.args.asked.seat.state is.is_first is.made
          (subst (λ b. HasExecuted (image_of c.args._shared.now) (worker_requests w.workers w.number qs) (is_flagged c.args._tables.now)
          (replies_of c.args.asked.replies.items) b is.begun c.args.asked.seat.state)
          c.requires.stopped is.part)
          c.into_seat.result came back.table back.view;
    }
