use Rattle.worker_run.proofs.AgainLemmas.{has_keys}
use Rattle.worker_run.proofs.laws.a_dictionary_lists_its_keys.Goals as goal

pub returns : goal.returns
returns c = has_keys
