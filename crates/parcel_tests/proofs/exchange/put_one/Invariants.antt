use Rattle.std.proofs.Common.{◌≡◌, ◌<◌, length}
use Rattle.parcel_tests.proofs.exchange.put_one.Given as goal

abbrev pub invariant-loop : goal.invariant-loop
invariant-loop g l = (l.senders.queues ≡ l.initial.senders.queues) × (l.to < length l.senders.queues)
