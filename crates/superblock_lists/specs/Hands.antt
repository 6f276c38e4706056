-- In whose hand a superblock is.
use Rattle.std.specs.Prelude.{◌≡◌, ◌≢◌, ◌<◌, ℕ, get_or, length, ⊤}
use Rattle.core_model.specs.View.{View, times_claimed}
use Rattle.heap_table.specs.Plays.{HasSoundState}
use Rattle.superblock_lists.specs.declared.pops.Pop.{Pop}
use Rattle.superblock_lists.specs.declared.pops.Pop.TheVariants.{Got, Empty}

-- the superblock that was popped is claimed, and in no sound state that has the view by another seat too
abbrev pub IsInThisHandAlone : Pop → View → Type 0
IsInThisHandAlone (Empty head) w = ⊤
IsInThisHandAlone (Got d) w = (0 < times_claimed d w) × ((s : HasSoundState w) (j : ℕ) (u : View) → j ≢ s.seat → j < length s.views
    → get_or s.views j u ≡ u → times_claimed d u ≡ 0)
