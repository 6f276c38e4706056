use Rattle.std.proofs.Common.{sym, subst}
use Rattle.atomic_table.specs.Table.{Allows}
use Rattle.heap_table.specs.Plays.{DidRecall}
use Rattle.heap_table.specs.Rule.{Holds, Opening}
use Rattle.heap_table.proofs.RuleLemmas.{allowed_recall}
use Rattle.heap_table.proofs.plays.recall_as.Goals as goal

pub load-requires : goal.load-requires
load-requires g c = (
  c.requires.table,
  c.requires.inside,
  subst (λ (o : Opening). Allows (Holds c.args.shared.now.key) c.args.shared.now.table_id.slots c.args.seat.now.id
      (c.args.seat.now.me.0, c.args.seat.now.me.1) 0 (λ n. n) (λ found after. DidRecall o (c.args.seat.now.me.0, c.args.seat.now.me.1) after))
      (sym c.requires.told)
      (allowed_recall c.args.shared.now.key c.args.shared.now.table_id.slots c.args.seat.now.id c.args.seat.now.me.0 c.args.seat.now.me.1
      c.requires.single.0 0 c.requires.single.1 c.requires.single.2),
)
