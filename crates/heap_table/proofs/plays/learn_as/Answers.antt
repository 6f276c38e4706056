use Rattle.heap_table.proofs.RuleLemmas.{allowed_learn}
use Rattle.heap_table.proofs.plays.learn_as.Goals as goal

pub load-requires : goal.load-requires
load-requires c = (
  c.requires.table,
  c.requires.inside,
  allowed_learn c.args.shared.now.key c.args.shared.now.table_id.slots c.args.seat.now.id
      c.args.seat.now.me.0 c.args.seat.now.me.1 c.requires.own.0 c.args.word c.requires.own.1 c.requires.own.2 c.requires.own.3 c.requires.own.4,
)
