-- The index of a block in the superblock that begins it.
use Rattle.std.specs.Prelude.{ℕ}
use Rattle.heap_model.specs.declared.block.Block.{Block}
use Rattle.heap_model.specs.Blocks.{Layout, IsBlockOf}

-- b is the block with the index, counted from 0, of those that superblock d begins
pub record HasIndex (l : Layout) (d index : ℕ) (b : Block) : Type 0 where
  pub words : ℕ
  pub count : ℕ
  pub is_of : IsBlockOf l b d index words count
