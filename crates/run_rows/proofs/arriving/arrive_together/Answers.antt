use Rattle.std.proofs.Common.{◌≡◌, ◌+◌, length, subst, sym, arith}
use Rattle.shard_moves.specs.Tables.{is_flagged}
use Rattle.worker_run.specs.Said.{requests_of}
use Rattle.run_rows.specs.Rows.{IsArrivingOf}
use Rattle.run_rows.proofs.ArriveLemmas.{all_counted, all_finished, all_in_turn}
use Rattle.run_rows.proofs.arriving.arrive_together.Goals as goal

pub map_vec-requires-after_bounds : goal.map_vec-requires-after_bounds
map_vec-requires-after_bounds g c = λ κs lives i x below is.
    let turn = c.requires.turns.each i x below in
    let number = subst (λ job. job.asked.worker.number + i + 1 ≡ length c.args.arriving.items) (sym is) turn.1 in
    let count = c.requires.each in (
      c.requires.heap,
      omega (arith, number, count),
      (
        c.requires.arriving.0,
        subst (IsArrivingOf c.args.shared.now (requests_of c.args.requests.now)
            (is_flagged c.args.tables.now) c.args.queues.now c.requires.arriving.0) (sym is)
            (c.requires.arriving.1 i x below),
      ),
    )

pub returns-clause-ended : goal.returns-clause-ended
returns-clause-ended g c =
    let count : length c.in_ok-all.all.items ≡ length c.args.arriving.items = let l = c.in_ok-all.ensures.len in omega (arith, l) in
    all_finished c.args.shared.now (requests_of c.args.requests.now) (is_flagged c.args.tables.now) c.args.queues.now
    (λ v. v.items) c.args.arriving.items c.in_ok-all.all.items
    (λ i d below. let one = (c.in_ok-all.ensures.each i d below).1 in
    (one.job, one.job_is, (one.call.met.0, one.call.met.1))) count c.all_of.result c.all_of.ensures

pub returns-clause-turns : goal.returns-clause-turns
returns-clause-turns g c =
    let count : length c.in_ok-all.all.items ≡ length c.args.arriving.items = let l = c.in_ok-all.ensures.len in omega (arith, l) in
    all_in_turn c.args.shared.now (requests_of c.args.requests.now) (is_flagged c.args.tables.now) c.args.queues.now
    (λ v. v.items) c.args.arriving.items c.in_ok-all.all.items
    (λ i d below. let one = (c.in_ok-all.ensures.each i d below).1 in
    (one.job, one.job_is, (one.call.met.0, one.call.met.1))) count c.requires.turns c.all_of.result c.all_of.ensures

pub returns-clause-count : goal.returns-clause-count
returns-clause-count g c =
    let count : length c.in_ok-all.all.items ≡ length c.args.arriving.items = let l = c.in_ok-all.ensures.len in omega (arith, l) in
    all_counted c.args.shared.now (requests_of c.args.requests.now) (is_flagged c.args.tables.now) c.args.queues.now
    (λ v. v.items) c.args.arriving.items c.in_ok-all.all.items
    (λ i d below. let one = (c.in_ok-all.ensures.each i d below).1 in
    (one.job, one.job_is, (one.call.met.0, one.call.met.1))) count c.all_of.result c.all_of.ensures
