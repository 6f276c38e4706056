use Rattle.heap_at_rest.proofs.DrainableLemmas.{reached_drainable, reached_drains}
use Rattle.heap_at_rest.proofs.draining.what_recovery_leaves_is_drainable.Goals as goal

pub returns-clause-drainable : goal.returns-clause-drainable
returns-clause-drainable c = reached_drainable

pub returns-clause-drains : goal.returns-clause-drains
returns-clause-drains c = reached_drains
