use Rattle.run_outcome.proofs.FullLemmas.{full_rightly}
use Rattle.run_outcome.proofs.TurnLemmas.{stops_rightly}
use Rattle.run_outcome.proofs.UsedLemmas.{leaves_used}
use Rattle.run_outcome.proofs.spent.what_the_workers_spent.Goals as goal

pub returns-clause-stops : goal.returns-clause-stops
returns-clause-stops c = stops_rightly

pub returns-clause-full : goal.returns-clause-full
returns-clause-full c = full_rightly

pub returns-clause-used : goal.returns-clause-used
returns-clause-used c = leaves_used
