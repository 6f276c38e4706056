use Rattle.image_run.proofs.OneThreadLemmas.{told_alike, left_alike}
use Rattle.image_run.proofs.laws.runs_without_a_refusal_are_alike.Goals as goal

pub returns-clause-told : goal.returns-clause-told
returns-clause-told c = told_alike

pub returns-clause-left : goal.returns-clause-left
returns-clause-left c = left_alike
