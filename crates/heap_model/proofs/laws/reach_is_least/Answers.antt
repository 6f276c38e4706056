use Rattle.heap_model.proofs.ReachLemmas.{in_closed}
use Rattle.heap_model.proofs.laws.reach_is_least.Goals as goal

pub returns : goal.returns
returns c = in_closed
