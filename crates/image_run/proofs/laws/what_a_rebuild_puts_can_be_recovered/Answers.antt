use Rattle.image_run.proofs.RebuiltLemmas.{rebuilt_good, rebuilt_alike}
use Rattle.image_run.proofs.laws.what_a_rebuild_puts_can_be_recovered.Goals as goal

pub returns-clause-well_formed : goal.returns-clause-well_formed
returns-clause-well_formed c = rebuilt_good

pub returns-clause-alike : goal.returns-clause-alike
returns-clause-alike c = rebuilt_alike
