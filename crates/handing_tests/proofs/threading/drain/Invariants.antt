use Rattle.crossbeam_queue.specs.Passes.{IsPassOf}
use Rattle.handing_tests.specs.Handing.{AreAt}
use Rattle.handing_tests.proofs.threading.drain.Given as goal

abbrev pub invariant-loop : goal.invariant-loop
invariant-loop g l = IsPassOf l.line l.pass × AreAt g.J.Run.table l.carriers.items
