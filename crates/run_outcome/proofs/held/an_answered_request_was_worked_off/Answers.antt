use Rattle.run_outcome.proofs.HeldLemmas.{asked_request, brought_value}
use Rattle.run_outcome.proofs.held.an_answered_request_was_worked_off.Goals as goal

pub returns-clause-asked : goal.returns-clause-asked
returns-clause-asked c = asked_request

pub returns-clause-brought : goal.returns-clause-brought
returns-clause-brought c = brought_value
