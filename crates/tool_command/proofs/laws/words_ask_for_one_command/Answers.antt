use Rattle.tool_command.proofs.OneCommandLemmas.{one_command}
use Rattle.tool_command.proofs.laws.words_ask_for_one_command.Goals as goal

pub returns : goal.returns
returns c = one_command
