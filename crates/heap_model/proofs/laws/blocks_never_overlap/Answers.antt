use Rattle.heap_model.proofs.BlockLemmas.{never_overlap}
use Rattle.heap_model.proofs.laws.blocks_never_overlap.Goals as goal

pub returns : goal.returns
returns c = never_overlap
