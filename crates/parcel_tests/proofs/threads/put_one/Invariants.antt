use Rattle.std.proofs.Common.{◌≡◌}
use Rattle.parcel_tests.specs.Sending.{IsSenderOf}
use Rattle.parcel_tests.proofs.threads.put_one.Given as goal

abbrev pub invariant-loop : goal.invariant-loop
invariant-loop g l = IsSenderOf l.line l.pass × (l.left.day ≡ g.J.Run.day)
