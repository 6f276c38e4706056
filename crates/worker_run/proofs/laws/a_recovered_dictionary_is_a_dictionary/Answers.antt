use Rattle.worker_run.proofs.RecoveredLemmas.{recovered_dictionary}
use Rattle.worker_run.proofs.laws.a_recovered_dictionary_is_a_dictionary.Goals as goal

pub returns : goal.returns
returns c = λ old new held maps to are kinds have. recovered_dictionary old new to held are maps kinds have
