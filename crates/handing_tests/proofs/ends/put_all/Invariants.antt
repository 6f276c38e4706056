use Rattle.std.proofs.Common.{length}
use Rattle.crossbeam_queue.specs.Passes.{IsPassOf}
use Rattle.handing_tests.specs.Handing.{AreAt}
use Rattle.handing_tests.proofs.ends.put_all.Given as goal

abbrev pub invariant-loop-carrier : goal.invariant-loop-carrier
invariant-loop-carrier g l = IsPassOf l.line l.pass × AreAt g.J.Run.table l.carriers.items

abbrev pub decreases-loop-carrier : goal.decreases-loop-carrier
decreases-loop-carrier g l = length l.carriers.items
