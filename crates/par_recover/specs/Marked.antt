-- What threads find: of each superblock, which of its blocks are marked.
use Rattle.std.specs.Prelude.{◌≡◌, ℕ, ◌*◌, ◌<◌, ◌↔◌, List, Vec, Bool, false, IsTrue, length, slice_index, slice_index_or}
use Rattle.std.specs.declared.alloc.Global.{Global}
use Rattle.heap_model.specs.declared.block.Block.{Block}
use Rattle.heap_model.specs.Header.{IsWellFormed, capacity_of, used_of}
use Rattle.heap_model.specs.Sizes.{IsClass, blocks_of}
use Rattle.heap_model.specs.Blocks.{Layout, layout_of}
use Rattle.super_block.specs.Division.{Describes}
use Rattle.filter_trace.specs.Reached.{Traced, IsReachedAt}
use Rattle.heap_recover.specs.Marked.{IsMarked, KeepsBlocks}

-- the words are those of an image with so many superblocks, of which so many have been taken, and the marks are of its blocks
pub record IsMarkedImage (words : List ℕ) (capacity used : ℕ) (marks : Traced) : Type 0 where
  pub formed : IsWellFormed (8 * length words) (slice_index words)
  pub capacity_is : capacity ≡ capacity_of (slice_index words)
  pub used_is : used ≡ used_of (slice_index words)
  pub keeps : KeepsBlocks (layout_of (slice_index words)) (IsMarked marks.pairs)
  pub described : Describes marks.directory (layout_of (slice_index words))

-- whether each block of superblock d is marked, in the order of their indexes; of a superblock of a class the list has all its blocks
pub record TellsMarked (l : Layout) (pairs : List (Block × ℕ)) (d : ℕ) (marked : List Bool) : Type 0 where
  pub long : (class : ℕ) → IsClass class → l.info d ≡ class → length marked ≡ blocks_of class
  pub each : (index : ℕ) → index < length marked → IsTrue (slice_index_or marked index false) ↔ IsReachedAt l pairs d index

-- the same of each of the first n superblocks
pub record TellsAll (l : Layout) (pairs : List (Block × ℕ)) (n : ℕ) (all : List (Vec Bool Global)) : Type 0 where
  pub long : length all ≡ n
  pub each : (d : ℕ) (other : Vec Bool Global) → d < n → TellsMarked l pairs d (slice_index_or all d other).items
