use Rattle.std.proofs.Common.{◌≡◌, ◌+◌, ◌<◌, length, subst, sym, arith}
use Rattle.run_rows.proofs.rows.begin_together.Goals as goal

pub returns-clause-begun : goal.returns-clause-begun
returns-clause-begun g c = λ k d less. (c.in_ok-all.ensures.each k d (let count = c.in_ok-all.ensures.len in omega (arith, less, count))).1.call.met.1

pub returns-clause-turns : goal.returns-clause-turns
returns-clause-turns g c = record {
  each = λ i any below.
      let count = c.in_ok-all.ensures.len in
      let inside : i < length c.args.jobs.items = omega (arith, below, count) in
      let one = (c.in_ok-all.ensures.each i any inside).1 in
      let turn = subst (λ job. (job.worker.workers ≡ length c.args.jobs.items) × (job.worker.number + i + 1 ≡ length c.args.jobs.items))
      (one.job_is one.job) (c.requires.turns.each i one.job inside) in
      subst (λ w. (w.workers ≡ length c.args.jobs.items) × (w.number + i + 1 ≡ length c.args.jobs.items)) (sym one.call.met.0) turn;
}
