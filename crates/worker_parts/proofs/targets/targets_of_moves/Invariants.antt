use Rattle.std.proofs.Common.{take}
use Rattle.worker_run.specs.Said.{requests_of}
use Rattle.worker_parts.proofs.TargetLemmas.{AreTargets}
use Rattle.worker_parts.proofs.targets.targets_of_moves.Given as goal

abbrev pub invariant-loop-request : goal.invariant-loop-request
invariant-loop-request l = AreTargets (requests_of (take l.request-index l.requests)) l.targets
