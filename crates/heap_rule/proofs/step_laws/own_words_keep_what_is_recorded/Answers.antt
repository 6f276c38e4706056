use Rattle.heap_rule.proofs.RecordLemmas.{records_stay}
use Rattle.heap_rule.proofs.step_laws.own_words_keep_what_is_recorded.Goals as goal

pub returns : goal.returns
returns c event v w found word e own still other = records_stay event v w found word e own still other
