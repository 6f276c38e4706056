use Rattle.filter_trace.specs.Trace.{lead}
use Rattle.filter_trace.proofs.scan.Scan.follow.Goals as goal

pub returns-in_ok-insert-in-To-clause-ok : goal.returns-in_ok-insert-in-To-clause-ok
returns-in_ok-insert-in-To-clause-ok c = lead c.in-To.block c.in-To.ensures c.in_ok-insert-in-To.ensures.ok
