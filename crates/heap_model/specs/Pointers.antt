-- Pointer words, which do not depend on where the heap is mapped (Ralloc's position-independent pointers, here as byte offsets).
use Rattle.std.specs.Prelude.{◌≡◌, ◌≢◌, ℕ, ◌+◌, ◌*◌, ◌<◌, ◌^◌}
use Rattle.heap_model.specs.declared.block.Block.{Block}
use Rattle.heap_model.specs.Image.{Image}
use Rattle.heap_model.specs.Blocks.{Names}

-- upper 16 bits of a pointer word, in their place; the lower 48 are the byte offset
abbrev pub pointer_tag : ℕ
pointer_tag = 0x5250000000000000

-- the word is a pointer to the byte offset
pub record IsPointerTo (word offset : ℕ) : Type 0 where
  pub tagged : word ≡ pointer_tag + offset
  pub short : offset < 2 ^ 48

-- the word is a pointer to the first byte of the block
pub record Leads (image : Image) (word : ℕ) (b : Block) : Type 0 where
  pub pointer : IsPointerTo word (8 * b.first_word)
  pub names : Names image (8 * b.first_word) b

-- the word is neither null nor a pointer to a block's first byte
pub record LeadsOutside (image : Image) (word : ℕ) : Type 0 where
  pub not_null : word ≢ 0
  pub nowhere : (b : Block) → Leads image word b → ⊥
