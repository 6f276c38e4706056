use Rattle.heap_model.proofs.ReachLemmas.{one_name, one_block}
use Rattle.heap_model.proofs.laws.a_pointer_leads_to_one_block.Goals as goal

pub returns-clause-offset : goal.returns-clause-offset
returns-clause-offset c = one_name

pub returns-clause-word : goal.returns-clause-word
returns-clause-word c = one_block
