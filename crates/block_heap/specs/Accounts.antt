-- No superblock of an open heap is lost.
use Rattle.std.specs.Prelude.{◌≡◌, ℕ, ◌⊎◌}
use Rattle.heap_model.specs.Geometry.{used_word}
use Rattle.heap_shape.specs.Draining.{HasUse, IsAccounted}
use Rattle.block_heap.specs.Parts.{Parts, image_of, held_in}

-- superblock d is cut for a class, a held block has a part in it, or it is in the free list
abbrev pub IsUsed : Parts → ℕ → Type 0
IsUsed p d = HasUse p.capacity (image_of p) (held_in p) d

-- each taken superblock has a use
abbrev pub AreAccounted : Parts → Type 0
AreAccounted p = IsAccounted p.capacity (image_of p) (held_in p)

-- superblock d has a use now, and the others keep theirs
pub record GivesUse (d : ℕ) (p q : Parts) : Type 0 where
  pub used : image_of q used_word ≡ image_of p used_word
  pub uses : (e : ℕ) → (e ≡ d) ⊎ IsUsed p e → IsUsed q e
