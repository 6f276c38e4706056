use Rattle.std.proofs.Common.{◌≡◌, ◌+◌, [], All, length, refl, ap, sym, subst, ◌∙◌, arith}
use Rattle.core_model.specs.View.{View}
use Rattle.seat_parcels.specs.Parcels.{IsParcelOf, all_sent_of}
use Rattle.shard_moves.specs.Tables.{is_flagged}
use Rattle.worker_run.specs.Said.{requests_of}
use Rattle.run_rows.proofs.ArriveLemmas.{asked_table, brought_counted, in_step, kept_accepts, none_sent, sent_tables, takes_goes}
use Rattle.run_rows.proofs.arriving.take_in.Goals as goal

pub arrive-requires : goal.arrive-requires
arrive-requires g c κs =
    let shared = c.args.shared.now in
    let asked = c.args.asked in
    let at = asked_table shared (requests_of c.args.requests.now) (is_flagged c.args.tables.now) asked c.requires.asked in (
      (refl, tt),
      (
        c.requires.asked,
        (
          c.if-asked.false,
          (
            takes_goes g.C.Chance.draw_gives,
            (
              in_step shared c.args.inbox.now g.K.ArrivalsOf.came asked.seat.state at c.requires.none c.requires.count c.requires.each,
              sent_tables (is_flagged c.args.tables.now) (requests_of c.args.requests.now)
                  asked.worker.workers asked.worker.number c.args.inbox.now c.requires.with_table,
            ),
          ),
        ),
      ),
    )

pub returns-then-asked-clause-worked : goal.returns-then-asked-clause-worked
returns-then-asked-clause-worked g c =
    let none : c.leave.result.seat.view.accepts ≡ 0 = ap (λ (v : View). v.accepts) c.leave.ensures.view ∙ c.requires.none in
    ([], omega arith, omega (arith, none), c.leave.ensures.worked (all_sent_of c.args.inbox.now))

pub returns-else-asked-clause-worked : goal.returns-else-asked-clause-worked
returns-else-asked-clause-worked g c =
    let all = c.arrive.ensures.worked in
    let ends = c.arrive.ensures.ends in
    let same : c.arrive.result.seat.view.accepts ≡ ends.0.state.view.accepts =
    sym (ap (λ (v : View). v.accepts) ends.5) ∙ kept_accepts ends.0.state ends.1.state ends.4.heap.2 in
    let step : ends.0.state.view.accepts + length c.arrive.new.inbox ≡ g.K.ArrivalsOf.came = ends.3.counted in
    let count : g.K.ArrivalsOf.came ≡ length c.args.inbox.now = c.requires.count in
    let bounds = brought_counted c.args.inbox.now all.0 all.1 c.arrive.new.inbox c.arrive.result.seat.view.accepts all.2 all.3
    (omega (arith, same, step, count)) in
    (all.0, bounds.0, bounds.1, all.4)

pub returns-else-asked-clause-each : goal.returns-else-asked-clause-each
returns-else-asked-clause-each g c =
    let ends = c.arrive.ensures.ends in
    let at = asked_table c.args.shared.now (requests_of c.args.requests.now) (is_flagged c.args.tables.now) c.args.asked c.requires.asked in
    subst (λ t. All (IsParcelOf t) c.arrive.new.inbox) (ends.2.stays.table ∙ at) ends.3.each

pub returns-else-asked-clause-none_left : goal.returns-else-asked-clause-none_left
returns-else-asked-clause-none_left g c = λ ran. none_sent c.arrive.new.inbox (c.arrive.ensures.empty ran)
