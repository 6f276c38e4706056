use Rattle.core_model.proofs.SoundLemmas.{in_length}
use Rattle.core_model.proofs.laws.a_step_works_on_a_word_of_the_table.Goals as goal

pub returns : goal.returns
returns c = in_length
