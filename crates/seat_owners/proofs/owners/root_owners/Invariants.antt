use Rattle.seat_owners.proofs.OwnerLemmas.{HasOwnersBelow}
use Rattle.seat_owners.proofs.owners.root_owners.Given as goal

abbrev pub invariant-loop-shard : goal.invariant-loop-shard
invariant-loop-shard l = HasOwnersBelow l.workers l.shard l.owners.items
