use Rattle.std.proofs.Common.{refl}
use Rattle.core_model.specs.Opening.{setup_of, opened_state}
use Rattle.heap_model.specs.Geometry.{roots}
use Rattle.core_model.proofs.OpenedLemmas.{opened}
use Rattle.core_model.proofs.OpenedHeldLemmas.{holds_exactly, owns_root}
use Rattle.core_model.proofs.SoundLemmas.{sound_runs}
use Rattle.core_model.proofs.HeldLemmas.{firm}
use Rattle.core_model.proofs.laws.an_opened_heap_is_sound.Goals as goal

pub returns-clause-opened : goal.returns-clause-opened
returns-clause-opened c = opened

pub returns-clause-held : goal.returns-clause-held
returns-clause-held c = holds_exactly

pub returns-clause-owned : goal.returns-clause-owned
returns-clause-owned c words held budget seats block_owners root_owners owners i n = owns_root i roots root_owners n

pub returns-clause-nothing_yet : goal.returns-clause-nothing_yet
returns-clause-nothing_yet c words held budget seats block_owners root_owners i = record {
  floor = refl;
  tickets = (refl, refl, refl);
  counts = (refl, refl, refl, refl, refl, refl, refl);
  free = (refl, refl);
  claims = (refl, refl, refl, refl);
  seen = (refl, refl, refl, refl);
  looks = refl;
}

pub returns-clause-running : goal.returns-clause-running
returns-clause-running c words held budget seats block_owners root_owners ready owners events answers s runs =
    sound_runs (setup_of words budget seats) (opened_state (setup_of words budget seats) held block_owners root_owners seats) s events answers
    (opened words held budget seats block_owners root_owners ready owners) runs

pub returns-clause-firm : goal.returns-clause-firm
returns-clause-firm c words held budget seats block_owners root_owners ready owners events answers s runs =
    firm (setup_of words budget seats) s.words s.views
    (sound_runs (setup_of words budget seats) (opened_state (setup_of words budget seats) held block_owners root_owners seats) s events answers
    (opened words held budget seats block_owners root_owners ready owners) runs)
