use Rattle.run_outcome.proofs.HeldLemmas.{each_held_once}
use Rattle.run_outcome.proofs.held.what_the_workers_held.Goals as goal

pub returns : goal.returns
returns c = each_held_once
