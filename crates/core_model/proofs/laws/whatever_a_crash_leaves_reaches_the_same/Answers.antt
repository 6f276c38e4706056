use Rattle.core_model.proofs.AlikeLemmas.{same_layout, same_kinds, same_reach_in, same_outside_in}
use Rattle.core_model.proofs.laws.whatever_a_crash_leaves_reaches_the_same.Goals as goal

pub returns-clause-layout : goal.returns-clause-layout
returns-clause-layout c = same_layout

pub returns-clause-reach : goal.returns-clause-reach
returns-clause-reach c = same_reach_in

pub returns-clause-outside : goal.returns-clause-outside
returns-clause-outside c = same_outside_in

pub returns-clause-kinds : goal.returns-clause-kinds
returns-clause-kinds c = same_kinds
