use Rattle.block_heap.proofs.ReopenLemmas.{reopened_drainable, reopened_drains}
use Rattle.block_heap.proofs.laws.a_recovered_heap_drains_what_the_image_says.Goals as goal

pub returns-clause-drainable : goal.returns-clause-drainable
returns-clause-drainable c = reopened_drainable

pub returns-clause-drains : goal.returns-clause-drains
returns-clause-drains c = reopened_drains
