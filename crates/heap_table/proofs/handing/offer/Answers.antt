use Rattle.heap_table.proofs.HandingLemmas.{at_offered}
use Rattle.heap_table.proofs.handing.offer.Goals as goal

pub returns-clause-at : goal.returns-clause-at
returns-clause-at c = at_offered c.args.shared.now c.args.seat.now.table_id c.split_as.new.seat.table_id c.args.seat.now.me
    c.split_as.new.seat.me c.args.block.first_word c.requires.at c.split_as.ensures.table c.split_as.ensures.left
