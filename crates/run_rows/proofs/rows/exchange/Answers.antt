use Rattle.std.proofs.Common.{All, length, sym, subst, ◌∙◌}
use Rattle.shard_moves.specs.Tables.{is_flagged}
use Rattle.worker_run.specs.Said.{requests_of}
use Rattle.run_rows.specs.declared.sending.Sender.{Sender}
use Rattle.run_rows.specs.Rows.{AgreesWith}
use Rattle.run_rows.proofs.ArriveLemmas.{have_ended}
use Rattle.run_rows.proofs.RowLemmas.{before_map}
use Rattle.run_rows.proofs.rows.exchange.Goals as goal

pub returns : goal.returns
returns g c =
    let told = c.in_ok-arriving.ensures.arriving in
    let e = c.arrive_together.ensures in
    record {
      ended = have_ended (λ v. v.items) c.args.shared.now (requests_of c.args.requests.now) (is_flagged c.args.tables.now) c.args.queues.now
          (length c.args.all.items) c.in_ok-arriving.arriving.items told.0 told.1
          (c.in_ok-arriving.ensures.count ∙ c.in_ok-answered.ensures.count
          ∙ c.in_ok-senders.ensures.count) c.arrive_together.result e.ended e.turns e.count;
    }

pub answer_together-requires-clause-tables : goal.answer_together-requires-clause-tables
answer_together-requires-clause-tables g c κs within =
    let agrees = AgreesWith {C = g.row.C.Denot} (is_flagged c.args.tables.now) (requests_of c.args.requests.now) in
    before_map agrees (λ (one : Sender g.row.C.Denot). one.begun) c.in_ok-senders.senders.items
    (subst (All agrees) (sym c.in_ok-senders.ensures.begun) c.requires.tables)
