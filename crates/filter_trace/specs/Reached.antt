-- What a trace tells its caller.
use Rattle.std.specs.Prelude.{◌≡◌, ℕ, List, Contains, ◌↔◌}
use Rattle.heap_model.specs.declared.block.Block.{Block}
use Rattle.heap_model.specs.Image.{Image}
use Rattle.heap_model.specs.Blocks.{Layout}
use Rattle.heap_model.specs.Reach.{Links, Reach, IsOutside}
use Rattle.super_block.specs.Division.{Divisions}
use Rattle.super_block.specs.Index.{HasIndex}
use Rattle.filter_trace.specs.declared.fault.TraceFault.{TraceFault}
use Rattle.filter_trace.specs.declared.fault.TraceFault.TheVariants.{Outside, Memory}

-- what a trace leaves: how the superblocks of the image are divided, and pairs of a block and a kind
pub record Traced : Type 0 where
  pub directory : Divisions
  pub pairs : List (Block × ℕ)

-- the pairs are exactly those that are reached
pub record AreReached (image : Image) (kinds : ℕ → ℕ) (links : Links) (pairs : List (Block × ℕ)) : Type 0 where
  pub each : (b : Block) (kind : ℕ) → Contains pairs (b, kind) ↔ Reach image kinds links b kind

-- block `index` of superblock d has been reached: it is in one of the pairs
pub record IsReachedAt (l : Layout) (pairs : List (Block × ℕ)) (d index : ℕ) : Type 0 where
  pub block : Block
  pub kind : ℕ
  pub indexed : HasIndex l d index block
  pub pair : Contains pairs (block, kind)

-- the fault tells a word that is outside, and its value; of want of memory nothing is said
abbrev pub TellsOutside : Image → (ℕ → ℕ) → Links → TraceFault → Type 0
TellsOutside image kinds links (Outside at value) = IsOutside image kinds links at × (value ≡ image at)
TellsOutside image kinds links Memory = Unit {0}
