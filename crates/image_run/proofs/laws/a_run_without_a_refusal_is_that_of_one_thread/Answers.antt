use Rattle.image_run.proofs.OneThreadLemmas.{run_thread}
use Rattle.image_run.proofs.laws.a_run_without_a_refusal_is_that_of_one_thread.Goals as goal

pub returns : goal.returns
returns c image requests options put text have run ended none_full = run_thread image requests options put text have run ended none_full
