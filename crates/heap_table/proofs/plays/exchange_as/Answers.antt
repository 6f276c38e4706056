use Rattle.std.proofs.Common.{◌==◌, sym, subst}
use prog.Atomic.{either}
use Rattle.heap_table.specs.Plays.{IsStepAt}
use Rattle.heap_table.proofs.RuleLemmas.{allowed}
use Rattle.heap_table.proofs.plays.exchange_as.Goals as goal

pub compare_exchange-requires : goal.compare_exchange-requires
compare_exchange-requires g c = (
  c.requires.table,
  c.requires.inside,
  allowed c.args.shared.now.key c.args.shared.now.table_id.slots c.args.seat.now.id c.args.seat.now.me.0 c.args.seat.now.me.1 c.requires.step.0
      g.J.ProofEvent.event
      c.args.place (λ n. either (n == c.args.seen) c.args.new n) c.requires.step.1
      (subst (λ e. IsStepAt c.args.shared.now.key c.requires.step.0 e c.args.place (λ n. either (n == c.args.seen) c.args.new n))
      (sym c.requires.told) c.requires.step.2),
)
