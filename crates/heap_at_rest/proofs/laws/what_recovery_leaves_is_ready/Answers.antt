use Rattle.heap_at_rest.proofs.ReadyLemmas.{ready}
use Rattle.heap_at_rest.proofs.laws.what_recovery_leaves_is_ready.Goals as goal

pub returns : goal.returns
returns c = ready
