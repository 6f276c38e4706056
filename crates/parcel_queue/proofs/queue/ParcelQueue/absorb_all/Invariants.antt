use Rattle.std.proofs.Common.{◌≡◌, ◌+◌, ◌<◌}
use Rattle.std.specs.Prelude.{sum_by}
use Rattle.parcel_queue.specs.Account.{all_joined}
use Rattle.parcel_queue.proofs.queue.ParcelQueue.absorb_all.Given as goal

abbrev pub invariant-loop-other : goal.invariant-loop-other
invariant-loop-other g l = (l.pass.queue ≡ l.self.queue)
    × (0 < l.pass.account.parts)
    × (l.pass.account ≡ all_joined l.initial.pass.account l.yielded)
    × (l.pass.account.parts ≡ l.initial.pass.account.parts + sum_by (λ other. other.account.parts) l.yielded)
