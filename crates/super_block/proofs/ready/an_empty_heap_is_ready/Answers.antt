use Rattle.heap_model.proofs.EmptyLemmas.{empty_ready}
use Rattle.super_block.proofs.ready.an_empty_heap_is_ready.Goals as goal

pub returns : goal.returns
returns c = empty_ready
