use Rattle.post_tests.specs.Begun.{IsPassTo}
use Rattle.post_tests.proofs.early.take.Given as goal

abbrev pub invariant-loop : goal.invariant-loop
invariant-loop g l = IsPassTo l.queue l.pass
