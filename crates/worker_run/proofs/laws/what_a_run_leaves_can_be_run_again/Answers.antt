use Rattle.worker_run.proofs.AgainLemmas.{can_be_run}
use Rattle.worker_run.proofs.laws.what_a_run_leaves_can_be_run_again.Goals as goal

pub returns : goal.returns
returns c = can_be_run
