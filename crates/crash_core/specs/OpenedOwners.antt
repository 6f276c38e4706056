-- Whose the small blocks of a heap at rest are, as it is opened for some seats.
use Rattle.std.specs.Prelude.{◌≡◌, ℕ, List, [], length, replicate, slice_index}
use Rattle.heap_model.specs.declared.block.Block.{Block}
use Rattle.heap_model.specs.Geometry.{lists, capacity_word, info_word, image_words}
use Rattle.core_model.specs.Opening.{picked, tabulate, small_blocks}
use Rattle.crash_core.specs.declared.owners.BlockOwner.{BlockOwner}
use Rattle.crash_core.specs.Standing.{HasBlocksOf}

-- each seat holds its small blocks, and none is in a cache or a batch
pub record AreBlockOwners (words : List ℕ) (held : List Block) (block_owners : List ℕ) (blocks : List BlockOwner) : Type 0 where
  pub long : length blocks ≡ image_words (slice_index words capacity_word)
  pub each : (i : ℕ) → HasBlocksOf blocks i (tabulate (λ class. small_blocks (slice_index words capacity_word)
      (λ d. slice_index words (info_word d)) class (picked i held block_owners)) 0 lists) (replicate lists []) []
