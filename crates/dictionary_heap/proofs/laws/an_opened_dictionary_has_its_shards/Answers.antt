use Rattle.dictionary_heap.proofs.OpenedLemmas.{has_all, opened_over, opened_shards, all_reached, run_begins}
use Rattle.dictionary_heap.proofs.laws.an_opened_dictionary_has_its_shards.Goals as goal

pub returns-clause-over : goal.returns-clause-over
returns-clause-over c = opened_over

pub returns-clause-roots : goal.returns-clause-roots
returns-clause-roots c = has_all

pub returns-clause-shards : goal.returns-clause-shards
returns-clause-shards c = opened_shards

pub returns-clause-exact : goal.returns-clause-exact
returns-clause-exact c = all_reached

pub returns-clause-begins : goal.returns-clause-begins
returns-clause-begins c = run_begins
