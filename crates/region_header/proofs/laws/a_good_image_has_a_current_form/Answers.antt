use Rattle.region_header.proofs.MigrationLemmas.{current_formed, current_same, current_kinds, current_below}
use Rattle.region_header.proofs.laws.a_good_image_has_a_current_form.Goals as goal

pub returns-clause-formed : goal.returns-clause-formed
returns-clause-formed c = current_formed

pub returns-clause-same : goal.returns-clause-same
returns-clause-same c = current_same

pub returns-clause-kinds : goal.returns-clause-kinds
returns-clause-kinds c = current_kinds

pub returns-clause-below : goal.returns-clause-below
returns-clause-below c = current_below
