-- A seat owns a word of a superblock in one way alone: so a word of a cached or batched block is none of a held one.
use Rattle.std.proofs.Common.{◌≡◌, ◌<◌, ◌≤◌, ℕ, ◌+◌}
use Rattle.heap_model.specs.Sizes.{words_of_class}
use Rattle.core_model.specs.Cells.{data_cell}
use Rattle.core_model.specs.Memory.{memory_of}
use Rattle.core_model.specs.View.{View, times_held, times_in_classes, times_own, times_within}
use Rattle.core_model.proofs.HeldOnceLemmas as once
use Rattle.heap_table.specs.Plays.{HasSoundState}

pub own_once : (v : View) → HasSoundState v → (word : ℕ) → times_own v (data_cell word) ≤ 1
own_once v s word = once.own_once v.setup (memory_of v.setup.capacity s.words) s.views s.sound.good s.seat v s.below s.at (data_cell word)

pub not_held : (v : View) → HasSoundState v → (word : ℕ) → 0 < times_in_classes word 0 v.caches + times_within
    (words_of_class v.batch.class) word v.batch.blocks → times_held v (data_cell word) ≡ 0
not_held v s word = once.free_not_held v.setup (memory_of v.setup.capacity s.words) s.views s.sound.good s.seat v s.below s.at word
