use Rattle.heap_table.proofs.RuleLemmas.{allowed_read}
use Rattle.heap_table.proofs.plays.read_as.Goals as goal

pub load-requires : goal.load-requires
load-requires c = (
  c.requires.table,
  c.requires.inside,
  allowed_read c.args.shared.now.key c.args.shared.now.table_id.slots c.args.seat.now.id
      c.args.seat.now.me.0 c.args.seat.now.me.1 c.requires.single.0 c.args.place c.requires.single.1 c.requires.single.2 c.requires.single.3,
)
