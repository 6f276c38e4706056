use Rattle.std.proofs.Common.{length}
use Rattle.handing_tests.specs.Handing.{AreAt}
use Rattle.handing_tests.proofs.threading.move_all.Given as goal

abbrev pub invariant-loop-carrier : goal.invariant-loop-carrier
invariant-loop-carrier g l = record {
  left : AreAt g.J.Run.table l.more.items;
  moved : AreAt g.J.Run.table l.carriers.items;
}

abbrev pub decreases-loop-carrier : goal.decreases-loop-carrier
decreases-loop-carrier g l = length l.more.items
