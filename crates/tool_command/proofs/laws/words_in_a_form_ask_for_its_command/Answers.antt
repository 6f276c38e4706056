use Rattle.tool_command.proofs.RunFormLemmas.{form_asks}
use Rattle.tool_command.proofs.laws.words_in_a_form_ask_for_its_command.Goals as goal

pub returns-clause-asks : goal.returns-clause-asks
returns-clause-asks c = form_asks

pub returns-clause-no_usage : goal.returns-clause-no_usage
returns-clause-no_usage c = λ words command form none. none command (form_asks words command form)
