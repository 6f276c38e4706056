use Rattle.run_model.proofs.OneMapLemmas.{whole_map, one_whole}
use Rattle.run_model.proofs.laws.a_dictionary_is_one_map.Goals as goal

pub returns-clause-some : goal.returns-clause-some
returns-clause-some c = whole_map

pub returns-clause-one : goal.returns-clause-one
returns-clause-one c = one_whole
