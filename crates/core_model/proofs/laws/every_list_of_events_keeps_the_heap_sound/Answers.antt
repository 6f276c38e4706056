use Rattle.core_model.proofs.SoundLemmas.{sound_runs}
use Rattle.core_model.proofs.HeldLemmas.{firm}
use Rattle.core_model.proofs.laws.every_list_of_events_keeps_the_heap_sound.Goals as goal

pub returns-clause-sound : goal.returns-clause-sound
returns-clause-sound c = sound_runs

pub returns-clause-firm : goal.returns-clause-firm
returns-clause-firm c k s s' events answers sound runs = firm k s'.words s'.views (sound_runs k s s' events answers sound runs)
