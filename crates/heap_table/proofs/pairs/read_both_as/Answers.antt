use Rattle.heap_table.proofs.HandingLemmas.{allowed_both}
use Rattle.heap_table.proofs.pairs.read_both_as.Goals as goal

pub load-requires : goal.load-requires
load-requires c = let b = c.requires.both in (
  c.requires.table,
  c.requires.some,
  allowed_both c.args.shared.now.key c.args.shared.now.table_id.slots c.args.seat.now.id
      c.args.seat.now.me.0 c.args.seat.now.me.1 b.0 b.1 0 b.2 b.3,
)
