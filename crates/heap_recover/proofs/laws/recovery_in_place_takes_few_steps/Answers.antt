use Rattle.heap_recover.proofs.DifferenceLemmas.{steps_few}
use Rattle.heap_recover.proofs.laws.recovery_in_place_takes_few_steps.Goals as goal

pub returns : goal.returns
returns c = steps_few
