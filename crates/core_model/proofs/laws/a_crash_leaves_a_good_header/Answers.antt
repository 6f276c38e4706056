use Rattle.core_model.specs.Opening.{setup_of, opened_state}
use Rattle.core_model.proofs.OpenedLemmas.{opened}
use Rattle.core_model.proofs.SoundLemmas.{sound_runs}
use Rattle.core_model.proofs.HeaderLemmas.{crash_header}
use Rattle.core_model.proofs.laws.a_crash_leaves_a_good_header.Goals as goal

pub returns-clause-sound : goal.returns-clause-sound
returns-clause-sound c k s sound good limit below image crash = crash_header k s.words s.views sound image crash good limit below

pub returns-clause-running : goal.returns-clause-running
returns-clause-running c words held budget seats block_owners root_owners ready owners events answers s runs limit below image crash =
    crash_header (setup_of words budget seats) s.words s.views
    (sound_runs (setup_of words budget seats) (opened_state (setup_of words budget seats) held block_owners root_owners seats) s events answers
    (opened words held budget seats block_owners root_owners ready owners) runs)
    image crash ready.formed limit below
