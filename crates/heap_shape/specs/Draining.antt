-- What each taken superblock of a heap is used for, and what stays of what draining a class is to give.
use Rattle.std.specs.Prelude.{◌≡◌, ℕ, ◌<◌, ◌⊎◌, List, Contains}
use Rattle.heap_model.specs.declared.block.Block.{Block}
use Rattle.heap_model.specs.Geometry.{info_word, used_word}
use Rattle.heap_model.specs.Image.{Image}
use Rattle.heap_model.specs.Sizes.{IsClass}
use Rattle.heap_model.specs.Recovered.{HasPartIn}
use Rattle.heap_at_rest.specs.Draining.{IsInFreeList, IsDrainable, IsToDrain}

-- a superblock is cut for a class, a held block has a part in it, or it is in the free list
pub data HasUse (capacity : ℕ) (image : Image) (held : List Block) (d : ℕ) : Type 0 where
  for_class : IsClass (image (info_word d)) → HasUse capacity image held d
  for_held : (b : Block) → Contains held b → HasPartIn capacity b d → HasUse capacity image held d
  for_later : IsInFreeList capacity image d → HasUse capacity image held d

-- each taken superblock has a use: none is lost
pub record IsAccounted (capacity : ℕ) (image : Image) (held : List Block) : Type 0 where
  pub each : (d : ℕ) → d < image used_word → HasUse capacity image held d

-- the same blocks are to be given, the heap stays drainable, and no superblock is lost
pub record DrainsSame (capacity class : ℕ) (held : List Block) (image new : Image) : Type 0 where
  pub has : (b : Block) → IsToDrain capacity image held class b → IsToDrain capacity new held class b
  pub only : (b : Block) → IsToDrain capacity new held class b → IsToDrain capacity image held class b
  pub drainable : IsDrainable capacity image held class → IsDrainable capacity new held class
  pub accounted : IsAccounted capacity image held → IsAccounted capacity new held

-- a block of those to be given is held now, and the others are still to be given
pub record DrainsOne (capacity class : ℕ) (image : Image) (held now : List Block) (b : Block) : Type 0 where
  pub was : IsToDrain capacity image held class b
  pub rest : (a : Block) → IsToDrain capacity image held class a → (a ≡ b) ⊎ IsToDrain capacity image now class a
  pub only : (a : Block) → IsToDrain capacity image now class a → IsToDrain capacity image held class a
  pub gone : IsToDrain capacity image now class b → ⊥
  pub drainable : IsDrainable capacity image held class → IsDrainable capacity image now class
  pub accounted : IsAccounted capacity image held → IsAccounted capacity image now
