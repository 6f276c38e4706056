use Rattle.std.proofs.Common.{◌≡◌, ◌<◌}
use Rattle.parcel_queue.specs.Delivery.{HasTaken}
use Rattle.parcel_queue.proofs.queue.ParcelQueue.take_all.Given as goal

abbrev pub invariant-loop : goal.invariant-loop
invariant-loop g l = (l.pass.queue ≡ l.self.queue) × (0 < l.pass.account.parts)
    × HasTaken g.J.Fact.holds l.initial.pass.account l.pass.account l.initial.into.items l.into.items
