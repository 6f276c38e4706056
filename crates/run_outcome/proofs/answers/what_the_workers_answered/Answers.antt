use Rattle.run_outcome.proofs.MapLeftLemmas.{leaves_maps}
use Rattle.run_outcome.proofs.ReplyLemmas.{answer_in_order, replies_rightly}
use Rattle.run_outcome.proofs.answers.what_the_workers_answered.Goals as goal

pub returns-clause-order : goal.returns-clause-order
returns-clause-order c = answer_in_order

pub returns-clause-replies : goal.returns-clause-replies
returns-clause-replies c = replies_rightly

pub returns-clause-maps : goal.returns-clause-maps
returns-clause-maps c = leaves_maps
