use Rattle.std.proofs.lemmas.Result.{on_ok_weaker}
use Rattle.filter_trace.specs.Trace.{lead}
use Rattle.mixed_trace.specs.Steps.{followed}
use Rattle.mixed_trace.proofs.steps.follow_any.Goals as goal

pub returns-in-To-clause-ok : goal.returns-in-To-clause-ok
returns-in-To-clause-ok c = on_ok_weaker c.insert.result (λ inserts. followed (lead c.in-To.block c.in-To.ensures inserts)) c.insert.ensures.ok
