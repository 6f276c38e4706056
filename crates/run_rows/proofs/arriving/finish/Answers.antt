use Rattle.std.proofs.Common.{◌++◌, All, ap, sym, subst, ◌∙◌}
use Rattle.std.proofs.lemmas.List.Sorted.{All-permutation}
use Rattle.parcel_queue.specs.Account.{QueueView}
use Rattle.seat_parcels.specs.declared.parcel.Parcel.{Parcel}
use Rattle.seat_parcels.specs.Parcels.{IsParcelOf}
use Rattle.shard_moves.specs.Tables.{is_flagged}
use Rattle.worker_run.specs.Said.{requests_of}
use Rattle.worker_parts.specs.Jobs.{HasTableFor}
use Rattle.run_rows.proofs.ArriveLemmas.{finished}
use Rattle.run_rows.proofs.arriving.finish.Goals as goal

pub collect-requires-clause-queue : goal.collect-requires-clause-queue
collect-requires-clause-queue g c =
    c.requires.arriving.1.queue c.index-queues-asked.result ∙ ap (λ (q : QueueView). q.queue) (sym c.index-queues-asked.is)

pub collect-requires-clause-kept : goal.collect-requires-clause-kept
collect-requires-clause-kept g c = subst (λ t. All (IsParcelOf t) c.args.one.kept.items) (sym c.requires.heap) c.requires.arriving.1.kept

pub bring-requires-clause-each : goal.bring-requires-clause-each
bring-requires-clause-each g c = subst (λ t. All (IsParcelOf t) c.in_ok-came.came.items) c.requires.heap c.in_ok-came.ensures.each

pub bring-requires-clause-with_table : goal.bring-requires-clause-with_table
bring-requires-clause-with_table g c =
    let w = c.args.one.asked.worker in
    All-permutation (λ (p : Parcel). HasTableFor (is_flagged c.args.tables.now) (requests_of c.args.requests.now) w.workers w.number p.key)
    (c.args.one.pass.account.put ++ c.args.one.kept.items) c.in_ok-came.came.items c.in_ok-came.ensures.all c.requires.arriving.1.with_table

pub returns-clause-ended : goal.returns-clause-ended
returns-clause-ended g c =
    let e = c.bring.ensures in
    finished c.args.shared.now (requests_of c.args.requests.now) (is_flagged c.args.tables.now)
    c.args.queues.now c.args.one c.in_ok-came.came.items c.bring.result
    c.in_ok-came.ensures.all c.in_ok-came.ensures.order e.ended e.worker e.replies e.offers e.remain e.at_table e.none_left
