use Rattle.run_model.proofs.GoesOnLemmas.{goes_on, stands_on}
use Rattle.worker_run.proofs.ProgressLemmas.{begins}
use Rattle.worker_run.proofs.laws.a_run_goes_on_request_by_request.Goals as goal

pub returns-clause-begins : goal.returns-clause-begins
returns-clause-begins c = begins

pub returns-clause-goes_on : goal.returns-clause-goes_on
returns-clause-goes_on c = goes_on

pub returns-clause-stands : goal.returns-clause-stands
returns-clause-stands c = stands_on
