-- What draining a class is to give, and which heaps give all of it.
use Rattle.std.specs.Prelude.{◌≡◌, ℕ, ◌<◌, ◌⊎◌, List, Contains}
use Rattle.heap_model.specs.declared.block.Block.{Block}
use Rattle.heap_model.specs.Geometry.{info_word, link_word, head_word, used_word}
use Rattle.heap_model.specs.Image.{Image}
use Rattle.heap_model.specs.Words.{head_first}
use Rattle.heap_model.specs.Blocks.{Layout}
use Rattle.heap_model.specs.Chains.{Follows}
use Rattle.heap_model.specs.Recovered.{HasPartIn, IsDrained}

-- the layout of a heap of so many superblocks
abbrev pub layout_at : ℕ → Image → Layout
layout_at capacity image = record { capacity = capacity; used = image used_word; info = λ d. image (info_word d) }

-- no held block has a word in superblock d
abbrev pub HasNoHeld : ℕ → List Block → ℕ → Type 0
HasNoHeld capacity held d = (b : Block) → Contains held b → HasPartIn capacity b d → ⊥

-- the links lead along the free list to its end, and the superblock is in it
pub record IsInFreeList (capacity : ℕ) (image : Image) (d : ℕ) : Type 0 where
  pub free : List ℕ
  pub leads : Follows (λ e. image (link_word e)) capacity (head_first (image (head_word 0))) free
  pub has : Contains free d

-- each taken superblock that no held block has a part in is in the free list, or is cut for the class
pub record IsDrainable (capacity : ℕ) (image : Image) (held : List Block) (class : ℕ) : Type 0 where
  pub each : (d : ℕ) → d < image used_word → HasNoHeld capacity held d → (image (info_word d) ≡ class) ⊎ IsInFreeList capacity image d

-- what draining the class must give
abbrev pub IsToDrain : ℕ → Image → List Block → ℕ → Block → Type 0
IsToDrain capacity image held class = IsDrained (layout_at capacity image) (Contains held) class
