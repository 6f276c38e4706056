use Rattle.core_model.specs.Opening.{setup_of, opened_state}
use Rattle.core_model.proofs.OpenedLemmas.{opened}
use Rattle.core_model.proofs.SoundLemmas.{sound_runs}
use Rattle.core_model.proofs.HeldOnceLemmas.{held_once}
use Rattle.core_model.proofs.laws.no_block_is_held_twice.Goals as goal

pub returns-clause-sound : goal.returns-clause-sound
returns-clause-sound c k s sound = held_once k s.words s.views sound

pub returns-clause-running : goal.returns-clause-running
returns-clause-running c words held budget seats block_owners root_owners ready owners events answers s runs =
    held_once (setup_of words budget seats) s.words s.views
    (sound_runs (setup_of words budget seats) (opened_state (setup_of words budget seats) held block_owners root_owners seats) s events answers
    (opened words held budget seats block_owners root_owners ready owners) runs)
