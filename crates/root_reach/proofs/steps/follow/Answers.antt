use Rattle.std.proofs.lemmas.Result.{on_ok_weaker}
use Rattle.root_reach.specs.Steps.{lead}
use Rattle.root_reach.proofs.steps.follow.Goals as goal

pub returns-in-To-clause-ok : goal.returns-in-To-clause-ok
returns-in-To-clause-ok c = on_ok_weaker c.add.result (lead c.in-To.block c.in-To.ensures) c.add.ensures.ok
