use Rattle.std.proofs.Common.{◌≡◌, All}
use Rattle.parcel_tests.specs.Sending.{IsSenderOf}
use Rattle.parcel_tests.proofs.threads.send.Given as goal

abbrev pub invariant-loop-number : goal.invariant-loop-number
invariant-loop-number g l = IsSenderOf l.line l.pass × All (λ letter. letter.day ≡ g.J.Run.day) l.letters.items
