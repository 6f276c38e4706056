use Rattle.std.proofs.Common.{◌+◌, ◌≤◌, List, false, length, subst}
use Rattle.run_model.specs.Sending.{Sent}
use Rattle.seat_parcels.specs.declared.parcel.Parcel.{Parcel}
use Rattle.seat_parcels.specs.Parcels.{all_sent_of}
use Rattle.shard_moves.specs.Tables.{is_flagged}
use Rattle.worker_run.specs.Said.{requests_of}
use Rattle.worker_parts.specs.Jobs.{IsWorkedOf}
use Rattle.run_rows.proofs.ArriveLemmas.{carriers_at}
use Rattle.run_rows.proofs.arriving.bring.Goals as goal

pub returns-clause-ended : goal.returns-clause-ended
returns-clause-ended g c =
    let w = c.take_in-worked.result in
    subst (λ (came : List Parcel). (brought : List Sent) × (length brought ≤ w.seat.view.accepts) × (w.seat.view.accepts ≤ length brought + 1)
    × IsWorkedOf c.args.shared.now (requests_of c.args.requests.now) (is_flagged c.args.tables.now) (all_sent_of came) brought false w)
    c.new-inbox.ensures
    c.take_in-worked.ensures.worked

pub returns-clause-at_table : goal.returns-clause-at_table
returns-clause-at_table g c = carriers_at c.args.shared.now c.take_in-worked.new.inbox c.in_ok-into_carriers.field-0.items
    c.in_ok-into_carriers.ensures c.take_in-worked.ensures.each
