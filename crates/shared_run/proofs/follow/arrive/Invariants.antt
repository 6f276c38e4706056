use Rattle.std.proofs.Common.{length}
use Rattle.shared_run.proofs.FollowLemmas.{HaveArrivedBut}
use Rattle.shared_run.proofs.follow.arrive.Given as goal

abbrev pub invariant-loop-key : goal.invariant-loop-key
invariant-loop-key l = HaveArrivedBut l.initial.moved.items l.moved.items l.initial.maps.items l.maps.items

abbrev pub decreases-loop-key : goal.decreases-loop-key
decreases-loop-key l = length l.moved.items
