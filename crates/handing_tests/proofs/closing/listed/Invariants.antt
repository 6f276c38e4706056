use Rattle.std.proofs.Common.{length}
use Rattle.handing_tests.specs.Handing.{AreAt}
use Rattle.handing_tests.proofs.closing.listed.Given as goal

abbrev pub invariant-loop-carrier : goal.invariant-loop-carrier
invariant-loop-carrier l = record {
  left : AreAt l.shared.table l.carriers.items;
  list : AreAt l.shared.table l.list.items;
}

abbrev pub decreases-loop-carrier : goal.decreases-loop-carrier
decreases-loop-carrier l = length l.carriers.items
