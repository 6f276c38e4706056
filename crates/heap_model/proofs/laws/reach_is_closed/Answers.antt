use Rattle.heap_model.proofs.ReachLemmas.{closed_reach}
use Rattle.heap_model.proofs.laws.reach_is_closed.Goals as goal

pub returns : goal.returns
returns c = closed_reach
