use Rattle.block_heap.proofs.ImageLemmas.{mixture_left, crash_left, closed_left, crash_own, closed_own, names_last}
use Rattle.block_heap.proofs.laws.what_is_left_is_an_image.Goals as goal

pub returns-clause-mixed : goal.returns-clause-mixed
returns-clause-mixed c = mixture_left

pub returns-clause-crashed : goal.returns-clause-crashed
returns-clause-crashed c = λ s image crash. (crash_left s image crash, crash_own s image crash)

pub returns-clause-closed : goal.returns-clause-closed
returns-clause-closed c = λ s image closed. (closed_left s image closed, closed_own s image closed)

pub returns-clause-named : goal.returns-clause-named
returns-clause-named c = names_last
