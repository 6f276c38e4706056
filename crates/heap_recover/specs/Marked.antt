-- What has been marked as reached, and what is kept of a superblock.
use Rattle.std.specs.Prelude.{◌≡◌, ℕ, ◌<◌, ◌≤◌, ◌+◌, ◌⊎◌, List, Contains}
use Rattle.heap_model.specs.declared.block.Block.{Block}
use Rattle.heap_model.specs.Geometry.{start_word}
use Rattle.heap_model.specs.Blocks.{Layout, IsBlock}
use Rattle.heap_model.specs.Recovered.{IsBlockOfClass, AreAscending}
use Rattle.heap_model.specs.Recovery.{HoldsKept}

-- the block is marked, as one of some kind
pub record IsMarked (pairs : List (Block × ℕ)) (b : Block) : Type 0 where
  pub kind : ℕ
  pub pair : Contains pairs (b, kind)

-- all that is kept are blocks
pub record KeepsBlocks (l : Layout) (kept : Block → Type 0) : Type 0 where
  pub each : (b : Block) → kept b → IsBlock l b

-- a kept block of the class in superblock d, among the first `count`
pub record IsKeptAmong (kept : Block → Type 0) (capacity class d count : ℕ) (b : Block) : Type 0 where
  pub index : ℕ
  pub is_block : IsBlockOfClass capacity class d index b
  pub among : index < count
  pub is_kept : kept b

-- the first word of a block of the class in superblock d that is not kept, among the first `count`
pub record IsSpareAmong (kept : Block → Type 0) (capacity class d count w : ℕ) : Type 0 where
  pub index : ℕ
  pub block : Block
  pub is_block : IsBlockOfClass capacity class d index block
  pub among : index < count
  pub first : block.first_word ≡ w
  pub unkept : kept block → ⊥

-- the first `count` blocks of the class in superblock d, parted into those that are kept and the first words of the others
pub record AreParted (kept : Block → Type 0) (capacity class d count : ℕ) (held : List Block) (spares : List ℕ) : Type 0 where
  pub kept_in_order : AreAscending (λ (b : Block). b.first_word) (IsKeptAmong kept capacity class d count) held
  pub spares_in_order : AreAscending (λ w. w) (IsSpareAmong kept capacity class d count) spares
  pub each : (index : ℕ) (b : Block) → index < count → IsBlockOfClass capacity class d index b
      → Contains held b ⊎ Contains spares b.first_word

-- a kept block that begins in superblock d
pub record IsKeptIn (capacity : ℕ) (kept : Block → Type 0) (d : ℕ) (b : Block) : Type 0 where
  pub is_kept : kept b
  pub from : start_word capacity d ≤ b.first_word
  pub until : b.first_word < start_word capacity (d + 1)

-- a kept block that begins in a superblock below d
pub record IsKeptBelow (capacity : ℕ) (kept : Block → Type 0) (d : ℕ) (b : Block) : Type 0 where
  pub is_kept : kept b
  pub below : b.first_word < start_word capacity d

-- a kept block that begins in a lower superblock has words in superblock e, whose info is 0
pub record IsInside (l : Layout) (kept : Block → Type 0) (e : ℕ) : Type 0 where
  pub holds : HoldsKept l kept e
  pub no_info : l.info e ≡ 0

-- of the kept blocks that begin below superblock d, one may go on through the superblocks from d up to `end`; the others end at d, or before
pub record GoOnTo (l : Layout) (kept : Block → Type 0) (d end : ℕ) : Type 0 where
  pub inside : (e : ℕ) → d ≤ e → e < end → IsInside l kept e
  pub ends : (b : Block) (e : ℕ) → kept b → b.first_word < start_word l.capacity d → d ≤ e → end ≤ e
      → b.first_word + b.words ≤ start_word l.capacity e
