use Rattle.quick_dictionary.proofs.ReopenedLemmas.{quick_alike, quick_map, quick_dictionary, as_recovered}
use Rattle.quick_dictionary.proofs.laws.what_is_opened_quickly_is_a_dictionary.Goals as goal

pub returns-clause-alike : goal.returns-clause-alike
returns-clause-alike c words quick is opened = quick_alike words is quick opened

pub returns-clause-maps : goal.returns-clause-maps
returns-clause-maps c words quick is opened = quick_map words is quick opened

pub returns-clause-dictionary : goal.returns-clause-dictionary
returns-clause-dictionary c words quick is opened = quick_dictionary words is quick opened

pub returns-clause-recovered : goal.returns-clause-recovered
returns-clause-recovered c words quick traced is opened made = as_recovered words is quick opened traced made
