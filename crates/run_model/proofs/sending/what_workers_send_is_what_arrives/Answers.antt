use Rattle.std.specs.Prelude.{nat_eq}
use Rattle.dict_model.specs.Nodes.{shard_of}
use Rattle.run_model.specs.Workers.{worker_of}
use Rattle.run_model.proofs.SendingLemmas.{all_arrive, all_come, in_order}
use Rattle.run_model.proofs.TogetherLemmas.{all_together, filtered_together}
use Rattle.run_model.proofs.sending.what_workers_send_is_what_arrives.Goals as goal

pub returns-clause-arrives : goal.returns-clause-arrives
returns-clause-arrives c whole requests replies = all_arrive whole 0 requests replies

pub returns-clause-comes : goal.returns-clause-comes
returns-clause-comes c = all_come

pub returns-clause-ordered : goal.returns-clause-ordered
returns-clause-ordered c = in_order

pub returns-clause-together : goal.returns-clause-together
returns-clause-together c = all_together

pub returns-clause-to_one : goal.returns-clause-to_one
returns-clause-to_one c workers worker whole requests replies told some each =
    filtered_together workers whole requests replies told some each (λ s. nat_eq (worker_of workers (shard_of s.key)) worker)
