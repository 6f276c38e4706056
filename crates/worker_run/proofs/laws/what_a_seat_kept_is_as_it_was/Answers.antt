use Rattle.worker_run.proofs.ProgressLemmas.{still}
use Rattle.worker_run.proofs.laws.what_a_seat_kept_is_as_it_was.Goals as goal

pub returns : goal.returns
returns c = still
