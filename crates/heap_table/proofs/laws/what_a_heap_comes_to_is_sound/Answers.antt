use Rattle.heap_table.proofs.ReachedLemmas.{reached_sound, closed_reached_sound}
use Rattle.heap_table.proofs.laws.what_a_heap_comes_to_is_sound.Goals as goal

pub returns-clause-kept : goal.returns-clause-kept
returns-clause-kept c = λ k start words views first reached. reached_sound k start first words views reached

pub returns-clause-closed : goal.returns-clause-closed
returns-clause-closed c = closed_reached_sound
