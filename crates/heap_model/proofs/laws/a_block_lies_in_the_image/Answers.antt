use Rattle.heap_model.proofs.BlockLemmas.{block_begins, block_inside}
use Rattle.heap_model.proofs.laws.a_block_lies_in_the_image.Goals as goal

pub returns-clause-superblock : goal.returns-clause-superblock
returns-clause-superblock c = block_begins

pub returns-clause-image : goal.returns-clause-image
returns-clause-image c = block_inside
