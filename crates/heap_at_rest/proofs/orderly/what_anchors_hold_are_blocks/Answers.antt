use Rattle.heap_at_rest.proofs.AnchorHeldLemmas.{held_block}
use Rattle.heap_at_rest.proofs.orderly.what_anchors_hold_are_blocks.Goals as goal

pub returns : goal.returns
returns c = held_block
