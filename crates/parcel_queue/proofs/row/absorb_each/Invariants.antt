use Rattle.std.proofs.Common.{◌≡◌, length}
use Rattle.parcel_queue.specs.Row.{ArePassesOf, each_joined}
use Rattle.parcel_queue.proofs.EachLemmas.{Lead}
use Rattle.parcel_queue.proofs.row.absorb_each.Given as goal

abbrev pub invariant-loop-other : goal.invariant-loop-other
invariant-loop-other g l = ArePassesOf l.queues l.owners.items
    × Lead l.queues l.others.items
    × (each_joined l.owners.items l.others.items ≡ each_joined l.initial.owners.items l.initial.others.items)

abbrev pub decreases-loop-other : goal.decreases-loop-other
decreases-loop-other g l = length l.others.items
