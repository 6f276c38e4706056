use Rattle.image_run.proofs.UntakenLemmas.{never_taken_put}
use Rattle.image_run.proofs.laws.a_superblock_that_a_run_never_took_stays_as_it_was.Goals as goal

pub returns : goal.returns
returns c = never_taken_put
