use Rattle.core_model.proofs.HeldLemmas.{crash_names, closed_names}
use Rattle.core_model.proofs.laws.a_crash_leaves_each_held_block_named.Goals as goal

pub returns-clause-crash : goal.returns-clause-crash
returns-clause-crash c k s sound = crash_names k s.words s.views sound

pub returns-clause-closed : goal.returns-clause-closed
returns-clause-closed c k s sound = closed_names k s.words s.views sound
