use Rattle.std.proofs.Common.{sym, subst}
use Rattle.worker_parts.specs.Going.{HasSettled}
use Rattle.worker_parts.proofs.SettleLemmas.{settles}
use Rattle.worker_parts.proofs.arriving.empty_caches.Goals as goal

pub returns-else-stopped-clause-settled : goal.returns-else-stopped-clause-settled
returns-else-stopped-clause-settled g c =
    let e = c.quiet.ensures in
    subst (λ b. HasSettled c.args.stopped b c.args.seat.now.state c.quiet.new.self.state) (sym c.is_err.ensures.value)
    (settles c.args.stopped c.quiet.result c.args.seat.now.state c.quiet.new.self.state c.if-stopped.false e.quiet e.runs e.stopped
    (record { own = e.unchanged; quiet = e.counted; kept = e.kept.heap }))
