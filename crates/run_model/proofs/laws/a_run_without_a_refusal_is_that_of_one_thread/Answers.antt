use Rattle.run_model.proofs.OneMapLemmas.{as_one_thread, whole_right, whole_left}
use Rattle.run_model.proofs.laws.a_run_without_a_refusal_is_that_of_one_thread.Goals as goal

pub returns-clause-thread : goal.returns-clause-thread
returns-clause-thread c = as_one_thread

pub returns-clause-right : goal.returns-clause-right
returns-clause-right c = whole_right

pub returns-clause-left : goal.returns-clause-left
returns-clause-left c image left workers requests replies whole have is leaves = whole_left image requests replies whole have is left workers leaves
