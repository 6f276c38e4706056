use Rattle.worker_run.proofs.ProgressLemmas.{left_answered, left_stopped, left_others}
use Rattle.worker_run.proofs.laws.what_a_run_leaves_is_a_dictionary.Goals as goal

pub returns-clause-maps : goal.returns-clause-maps
returns-clause-maps c = left_answered

pub returns-clause-stopped : goal.returns-clause-stopped
returns-clause-stopped c = λ image rs v w request seat all has may left others seat_w. left_stopped image rs v w request seat has may left
    others all seat_w

pub returns-clause-others : goal.returns-clause-others
returns-clause-others c = left_others
