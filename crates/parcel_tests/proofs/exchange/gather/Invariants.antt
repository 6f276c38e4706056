use Rattle.std.proofs.Common.{All, length}
use Rattle.parcel_queue.specs.Row.{ArePassesOf}
use Rattle.parcel_tests.proofs.exchange.gather.Given as goal

abbrev pub invariant-loop-one : goal.invariant-loop-one
invariant-loop-one g l = ArePassesOf l.queues l.owners.items × All (λ one. ArePassesOf l.queues one.passes.items) l.worked.items

abbrev pub decreases-loop-one : goal.decreases-loop-one
decreases-loop-one g l = length l.worked.items
