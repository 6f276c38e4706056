use Rattle.image_run.proofs.OneThreadLemmas.{run_ends, run_room}
use Rattle.image_run.proofs.laws.enough_budget_and_room_are_known.Goals as goal

pub returns-clause-budget : goal.returns-clause-budget
returns-clause-budget c = run_ends

pub returns-clause-room : goal.returns-clause-room
returns-clause-room c = run_room
