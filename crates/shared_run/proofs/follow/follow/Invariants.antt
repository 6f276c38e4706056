use Rattle.std.proofs.Common.{take}
use Rattle.run_model.specs.Runs.{answered}
use Rattle.worker_run.specs.Said.{requests_of, replies_of}
use Rattle.shared_run.proofs.FollowLemmas.{HaveFollowed}
use Rattle.shared_run.proofs.follow.follow.Given as goal

abbrev pub invariant-loop-i : goal.invariant-loop-i
invariant-loop-i l = HaveFollowed (answered (requests_of (take l.i l.requests)) (replies_of (take l.i l.replies)))
    l.initial.maps.items l.maps.items l.moved.items
