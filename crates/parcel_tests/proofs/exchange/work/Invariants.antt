use Rattle.std.proofs.Common.{◌≡◌}
use Rattle.parcel_tests.proofs.exchange.work.Given as goal

abbrev pub invariant-loop-number : goal.invariant-loop-number
invariant-loop-number g l = l.senders.queues ≡ l.queues
