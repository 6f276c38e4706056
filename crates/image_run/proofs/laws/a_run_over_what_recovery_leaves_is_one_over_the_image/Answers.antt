use Rattle.image_run.proofs.CarryLemmas.{runs_carried}
use Rattle.image_run.proofs.laws.a_run_over_what_recovery_leaves_is_one_over_the_image.Goals as goal

pub returns : goal.returns
returns c image words maps to are requests options put text runs = runs_carried image words to maps are requests options put text runs
