-- Whose the superblocks of a heap at rest are, as it is opened for some seats.
use Rattle.std.specs.Prelude.{◌≡◌, ℕ, List, [], set, length, slice_index}
use Rattle.heap_model.specs.declared.block.Block.{Block}
use Rattle.heap_model.specs.Geometry.{capacity_word}
use Rattle.core_model.specs.Opening.{picked, large_blocks}
use Rattle.seat_state.specs.declared.superblocks.SuperblockUsage.TheVariants as usage
use Rattle.seat_state.specs.declared.superblocks.SuperblockOwner.{SuperblockOwner}
use Rattle.seat_state.specs.Superblocks.{HasSuperblocks, IsRange}

-- each seat has the superblocks of its large blocks, and claims none
pub record AreSuperblockOwners (words : List ℕ) (held : List Block) (block_owners : List ℕ)
    (superblocks : List SuperblockOwner) : Type 0 where
  pub long : length superblocks ≡ slice_index words capacity_word
  pub each : (i : ℕ)
      → HasSuperblocks superblocks i [] [] [] [] (large_blocks (slice_index words capacity_word) (picked i held block_owners))

-- the superblocks of a large block have the seat as owner: the first one tells how many they are
pub record IsLargeGiven (old new : List SuperblockOwner) (seat d count : ℕ) : Type 0 where
  pub rest : List SuperblockOwner
  pub range : IsRange old rest d count (record { seat = seat; usage = usage.Large 0 })
  pub first : new ≡ set rest d (record { seat = seat; usage = usage.Large count })
