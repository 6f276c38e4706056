use Rattle.std.proofs.Common.{◌≡◌, All}
use Rattle.parcel_tests.specs.Sending.{IsPassOf}
use Rattle.parcel_tests.proofs.threads.receive.Given as goal

abbrev pub invariant-loop : goal.invariant-loop
invariant-loop g l = IsPassOf l.line l.pass × All (λ letter. letter.day ≡ g.J.Run.day) l.letters.items
