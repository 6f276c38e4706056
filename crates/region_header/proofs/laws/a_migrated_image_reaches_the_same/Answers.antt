use Rattle.region_header.proofs.MigrationLemmas.{current_of_new}
use Rattle.region_header.proofs.ReachedLemmas.{current_reach, current_outside}
use Rattle.region_header.proofs.laws.a_migrated_image_reaches_the_same.Goals as goal

pub returns-clause-reach : goal.returns-clause-reach
returns-clause-reach c = current_reach

pub returns-clause-outside : goal.returns-clause-outside
returns-clause-outside c = current_outside

pub returns-clause-new : goal.returns-clause-new
returns-clause-new c words kinds formed = current_of_new words kinds formed.version_is
