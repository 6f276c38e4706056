use Rattle.image_run.proofs.PutLemmas.{put_good, put_inside, put_maps, put_orderly}
use Rattle.image_run.proofs.laws.what_a_run_puts_can_be_run_again.Goals as goal

pub returns-clause-well_formed : goal.returns-clause-well_formed
returns-clause-well_formed c = put_good

pub returns-clause-nothing_outside : goal.returns-clause-nothing_outside
returns-clause-nothing_outside c = put_inside

pub returns-clause-maps : goal.returns-clause-maps
returns-clause-maps c = put_maps

pub returns-clause-orderly : goal.returns-clause-orderly
returns-clause-orderly c = put_orderly
