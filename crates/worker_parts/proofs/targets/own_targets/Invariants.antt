use Rattle.worker_parts.proofs.TargetLemmas.{AreOwn}
use Rattle.worker_parts.proofs.targets.own_targets.Given as goal

abbrev pub invariant-loop-shard : goal.invariant-loop-shard
invariant-loop-shard l = AreOwn l.fn.worker.workers l.fn.worker.number l.fn.targets l.own l.shard
