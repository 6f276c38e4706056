use Rattle.block_heap.proofs.ReopenLemmas.{opened_drainable, opened_drains, same_offsets}
use Rattle.block_heap.proofs.laws.a_heap_drains_what_its_words_say.Goals as goal

pub returns-clause-drainable : goal.returns-clause-drainable
returns-clause-drainable c = opened_drainable

pub returns-clause-drains : goal.returns-clause-drains
returns-clause-drains c = opened_drains

pub returns-clause-offsets : goal.returns-clause-offsets
returns-clause-offsets c = same_offsets
