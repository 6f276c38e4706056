use Rattle.run_model.proofs.AlikeLemmas.{same_replies, same_left}
use Rattle.run_model.proofs.laws.runs_as_one_thread_are_alike.Goals as goal

pub returns-clause-replies : goal.returns-clause-replies
returns-clause-replies c = same_replies

pub returns-clause-left : goal.returns-clause-left
returns-clause-left c = same_left
