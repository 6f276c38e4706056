use Rattle.run_model.proofs.FullLemmas.{one_each, never_full, never_full_moved}
use Rattle.run_model.proofs.laws.replies_fit_the_trace.Goals as goal

pub returns-clause-each : goal.returns-clause-each
returns-clause-each c = one_each

pub returns-clause-room : goal.returns-clause-room
returns-clause-room c = never_full

pub returns-clause-move_room : goal.returns-clause-move_room
returns-clause-move_room c = never_full_moved
