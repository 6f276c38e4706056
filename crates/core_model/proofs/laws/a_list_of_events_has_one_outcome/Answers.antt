use Rattle.core_model.proofs.OutcomeLemmas.{one_run}
use Rattle.core_model.proofs.laws.a_list_of_events_has_one_outcome.Goals as goal

pub returns : goal.returns
returns c = one_run
