use Rattle.std.proofs.Common.{subst, sym}
use Rattle.handing_tests.specs.Handing.{HasAllRoots}
use Rattle.handing_tests.proofs.ring.last_hand.Goals as goal

pub returns-in-Some-clause-roots : goal.returns-in-Some-clause-roots
returns-in-Some-clause-roots c = λ last. subst HasAllRoots (sym c.new.ensures.roots) (c.in-Some.ensures.roots last)
