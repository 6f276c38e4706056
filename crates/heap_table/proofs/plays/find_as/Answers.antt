use Rattle.std.proofs.Common.{◌⊎◌, sym, subst}
use Rattle.heap_table.specs.Plays.{DidFind, IsStepAt, May}
use Rattle.atomic_table.specs.Table.{Allows}
use Rattle.heap_table.specs.Rule.{Holds}
use Rattle.heap_table.proofs.RuleLemmas.{allowed_find}
use Rattle.heap_table.proofs.plays.find_as.Goals as goal

pub load-requires : goal.load-requires
load-requires g c = (
  c.requires.table,
  c.requires.inside,
  subst (λ x. Allows (Holds c.args.shared.now.key) c.args.shared.now.table_id.slots c.args.seat.now.id c.args.seat.now.me c.args.place (λ n. n)
      (λ found after. DidFind g.J.ProofStore.event x c.args.seat.now.me found after)) (sym c.requires.told_value)
      (allowed_find c.args.shared.now.key c.args.shared.now.table_id.slots c.args.seat.now.id c.args.seat.now.me.0 c.args.seat.now.me.1
      c.requires.step.0 g.J.ProofStore.event
      c.args.place c.args._value c.requires.step.1
      (subst (λ e. IsStepAt c.args.shared.now.key c.requires.step.0 e c.args.place (λ _. c.args._value) ⊎ (May c.requires.step.0 e → ⊥))
      (sym c.requires.told) c.requires.step.3)),
)
