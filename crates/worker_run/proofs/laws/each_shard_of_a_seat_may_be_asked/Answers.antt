use Rattle.run_model.proofs.GoesOnLemmas.{asked_shard}
use Rattle.worker_run.proofs.laws.each_shard_of_a_seat_may_be_asked.Goals as goal

pub returns : goal.returns
returns c = asked_shard
