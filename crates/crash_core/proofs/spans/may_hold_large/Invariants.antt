use Rattle.std.proofs.Common.{ℕ, ◌≤◌, ◌<◌, true}
use Rattle.crash_core.specs.Standing.{Decides, MayJoin}
use Rattle.crash_core.proofs.spans.may_hold_large.Given as goal

abbrev pub invariant-loop-e : goal.invariant-loop-e
invariant-loop-e l = Decides l.core l.seat (λ m v. (x : ℕ) → l.d ≤ x → x < l.e → MayJoin m v l.d l.n x) true
