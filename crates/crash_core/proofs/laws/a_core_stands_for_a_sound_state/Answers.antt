use Rattle.std.proofs.Common.{subst}
use Rattle.core_model.specs.View.{Setup}
use Rattle.core_model.specs.Sound.{Sound}
use Rattle.core_model.specs.Steps.{TableState, IsSoundState}
use Rattle.core_model.proofs.HeldLemmas.{firm, crash_names}
use Rattle.core_model.proofs.HeldOnceLemmas.{held_once}
use Rattle.crash_core.specs.declared.state.CoreState.{CoreState}
use Rattle.crash_core.specs.Standing.{Represents}
use Rattle.crash_core.proofs.laws.a_core_stands_for_a_sound_state.Goals as goal

sound_of : (core : CoreState) (k : Setup) (s : TableState) → Represents core k s → IsSoundState k s
sound_of core k s stands = subst (λ words. Sound k words s.views) stands.words stands.keeps.sound

pub returns-clause-sound : goal.returns-clause-sound
returns-clause-sound c core k s stands = sound_of core k s stands

pub returns-clause-firm : goal.returns-clause-firm
returns-clause-firm c core k s stands = firm k s.words s.views (sound_of core k s stands)

pub returns-clause-crash : goal.returns-clause-crash
returns-clause-crash c core k s stands = crash_names k s.words s.views (sound_of core k s stands)

pub returns-clause-held_once : goal.returns-clause-held_once
returns-clause-held_once c core k s stands = held_once k s.words s.views (sound_of core k s stands)

pub returns-clause-counted : goal.returns-clause-counted
returns-clause-counted c core k s stands = stands.order.counted
