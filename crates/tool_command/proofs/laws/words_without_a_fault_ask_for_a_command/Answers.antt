use Rattle.tool_command.proofs.TakenLemmas.{faultless_asks, asks_faultless, usage_faulty}
use Rattle.tool_command.proofs.laws.words_without_a_fault_ask_for_a_command.Goals as goal

pub returns-clause-asks : goal.returns-clause-asks
returns-clause-asks c = faultless_asks

pub returns-clause-no_others : goal.returns-clause-no_others
returns-clause-no_others c = asks_faultless

pub returns-clause-usage : goal.returns-clause-usage
returns-clause-usage c = λ words. (usage_faulty words, λ faulty command asks. faulty (asks_faultless words command asks))
