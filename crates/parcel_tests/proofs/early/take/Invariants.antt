use Rattle.parcel_tests.specs.Sending.{IsPassOf}
use Rattle.parcel_tests.proofs.early.take.Given as goal

abbrev pub invariant-loop : goal.invariant-loop
invariant-loop g l = IsPassOf l.line l.pass
