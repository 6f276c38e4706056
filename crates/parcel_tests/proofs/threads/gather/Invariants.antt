use Rattle.std.proofs.Common.{◌≡◌, All, IfOk, length}
use Rattle.parcel_tests.specs.Sending.{IsPassOf}
use Rattle.parcel_tests.proofs.threads.gather.Given as goal

abbrev pub invariant-loop-one : goal.invariant-loop-one
invariant-loop-one g l = All (λ pass. pass.queue ≡ l._line.queue) l.passes.items
    × All (λ letter. letter.day ≡ g.J.Run.day) l.letters.items
    × All (λ one. IfOk one (λ w. IsPassOf l._line w.pass × All (λ letter. letter.day ≡ g.J.Run.day) w.letters.items)) l.worked.items

abbrev pub decreases-loop-one : goal.decreases-loop-one
decreases-loop-one g l = length l.worked.items
