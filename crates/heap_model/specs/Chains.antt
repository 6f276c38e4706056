-- Lists of descriptors and chains of free blocks, each as the whole list that a link leads along.
use Rattle.std.specs.Prelude.{◌≡◌, ℕ, ◌+◌, ◌<◌, List, [], ◌∷◌, Contains}
use Rattle.heap_model.specs.Geometry.{link_word, head_word}
use Rattle.heap_model.specs.Image.{Image}
use Rattle.heap_model.specs.Words.{head_first}
use Rattle.heap_model.specs.Header.{capacity_of}
use Rattle.heap_model.specs.Sizes.{words_of_class}
use Rattle.heap_model.specs.Recovered.{IsBlockOfClass}

-- from a number, each 1 more than a descriptor's index, the links lead along the descriptors to a 0
abbrev pub Follows : (ℕ → ℕ) → ℕ → ℕ → List ℕ → Type 0
Follows link capacity from [] = from ≡ 0
Follows link capacity from (d ∷ ds) = (from ≡ d + 1) × (d < capacity) × Follows link capacity (link d) ds

-- from a block's first word, the first words of blocks lead along the blocks; the last block's first word says nothing, since the length is known
abbrev pub Walks : (ℕ → ℕ) → ℕ → List ℕ → Type 0
Walks next from [] = Unit {0}
Walks next from (b ∷ bs) = (from ≡ b) × Walks next (next b) bs

-- where a walk along the blocks has come after the last of them
abbrev pub after : (ℕ → ℕ) → ℕ → List ℕ → ℕ
after next from [] = from
after next from (b ∷ bs) = after next (next b) bs

-- a chain of free blocks of superblock d, all of the class: what the walk meets are first words of such blocks
pub record IsChain (next : ℕ → ℕ) (capacity class d from : ℕ) (bs : List ℕ) : Type 0 where
  pub walks : Walks next from bs
  pub blocks : (b : ℕ) → Contains bs b
      → (index : ℕ) × IsBlockOfClass capacity class d index (record { first_word = b; words = words_of_class class })

-- the descriptors of a list of an image
abbrev pub IsListOf : Image → ℕ → List ℕ → Type 0
IsListOf image list ds = Follows (λ d. image (link_word d)) (capacity_of image) (head_first (image (head_word list))) ds
