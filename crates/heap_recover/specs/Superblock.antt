-- What recovery leaves of one superblock, without regard to any other.
use Rattle.std.specs.Prelude.{◌≡◌, ℕ, ◌+◌, ◌<◌, ◌≤◌}
use Rattle.heap_model.specs.declared.block.Block.{Block}
use Rattle.heap_model.specs.Geometry.{start_word}
use Rattle.heap_model.specs.Image.{Image}
use Rattle.heap_model.specs.Header.{capacity_of}
use Rattle.heap_model.specs.Sizes.{IsClass}
use Rattle.heap_model.specs.Blocks.{Layout, layout_of}
use Rattle.heap_model.specs.Recovery.{IsSpare, IsPartial}

-- of the blocks of the class in superblock d that are not kept, `next` begins the first behind the one at w
pub record IsNextSpare (l : Layout) (kept : Block → Type 0) (class d w next : ℕ) : Type 0 where
  pub spare : IsSpare l kept class d w
  pub is_next : IsSpare l kept class d next
  pub behind : w < next
  pub least : (v : ℕ) → IsSpare l kept class d v → w < v → next ≤ v

-- superblock d is of a class, with some kept blocks, and recovery stores `next` in its word w
pub record IsRelinked (l : Layout) (kept : Block → Type 0) (d w next : ℕ) : Type 0 where
  pub class : ℕ
  pub is_class : IsClass class
  pub partial : IsPartial l kept class d
  pub next_spare : IsNextSpare l kept class d w next

-- of the words of superblock d, the first of each block that is not kept leads to the next such block where superblock
-- d is of a class and has kept blocks; each other word stays
pub record LeavesSuperblock (old new : Image) (kept : Block → Type 0) (d : ℕ) : Type 0 where
  pub relinked : (w next : ℕ) → IsRelinked (layout_of old) kept d w next → new w ≡ next
  pub others : (word : ℕ) → start_word (capacity_of old) d ≤ word → word < start_word (capacity_of old) (d + 1)
      → ((next : ℕ) → IsRelinked (layout_of old) kept d word next → ⊥) → new word ≡ old word
