use Rattle.std.proofs.Common.{[], true, sym, subst, ap}
use Rattle.worker_run.specs.Said.{requests_of, replies_of}
use Rattle.shard_moves.specs.Tables.{is_flagged}
use Rattle.worker_parts.specs.Jobs.{IsPartOf}
use Rattle.worker_parts.proofs.WholeLemmas.{halted_part}
use Rattle.worker_parts.proofs.arriving.leave_begun.Goals as goal

pub returns-clause-worked : goal.returns-clause-worked
returns-clause-worked g c tables =
    let is = c.requires.begun in
    let w = c.args.begun.worker in
    let qs = requests_of c.args._requests.now in
    let back = c.into_seat.ensures in
    record {
      part = subst (λ replies. IsPartOf c.args._shared.now qs w.workers w.number tables c.into_seat.result replies [] [] true
          c.args.begun.stopped) (sym (ap replies_of is.empty))
          (halted_part c.args._shared.now qs w.workers w.number (is_flagged c.args.begun.tables)
          tables c.args.begun.stopped is.first c.args.begun.seat.state is.is_first is.part
          c.into_seat.result back.table back.view);
    }
