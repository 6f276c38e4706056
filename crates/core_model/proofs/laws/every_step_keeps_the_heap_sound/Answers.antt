use Rattle.core_model.proofs.KeptLemmas.{kept}
use Rattle.core_model.proofs.SoundLemmas.{sound_step}
use Rattle.core_model.proofs.laws.every_step_keeps_the_heap_sound.Goals as goal

pub returns-clause-memory : goal.returns-clause-memory
returns-clause-memory c = kept

pub returns-clause-table : goal.returns-clause-table
returns-clause-table c = sound_step
