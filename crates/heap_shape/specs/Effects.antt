-- What rows of steps make of the words of a heap.
use Rattle.std.specs.Prelude.{◌≡◌, ◌≢◌, ℕ, zero, suc, ◌+◌, ◌<◌, ◌≤◌, ◌⊎◌, List, [], ◌∷◌, ◌++◌, length}
use Rattle.heap_model.specs.Geometry.{info_word, anchor_word, link_word, head_word, start_word, superblock_words}
use Rattle.heap_model.specs.Image.{Image}
use Rattle.heap_model.specs.Sizes.{blocks_of}
use Rattle.heap_model.specs.Words.{full_anchor, head_of, head_first, anchor_of, anchor_first}
use Rattle.heap_shape.specs.Shape.{Shape}
use Rattle.heap_shape.specs.Standing.{first_of}

-- one word was set, and no other
pub record IsSet (image new : Image) (word value : ℕ) : Type 0 where
  pub at : new word ≡ value
  pub others : (other : ℕ) → other ≢ word → new other ≡ image other

-- the first descriptor d was taken off a list
pub record IsPoppedOf (image new : Image) (list d : ℕ) : Type 0 where
  pub pops : ℕ
  pub is_first : head_first (image (head_word list)) ≡ d + 1
  pub set : IsSet image new (head_word list) (head_of (head_first (image (link_word d))) pops)

-- descriptor d was put in front of a list
pub record IsPushedOn (image new : Image) (list d : ℕ) : Type 0 where
  pub middle : Image
  pub pops : ℕ
  pub link : IsSet image middle (link_word d) (head_first (image (head_word list)))
  pub head : IsSet middle new (head_word list) (head_of (d + 1) pops)

-- a word of superblock d
pub record IsInSuperblock (capacity d word : ℕ) : Type 0 where
  pub from : start_word capacity d ≤ word
  pub until : word < start_word capacity d + superblock_words

-- superblock d was cut for the class: its blocks are in one chain, in order, which its anchor doesn't lead to
pub record IsCut (capacity : ℕ) (image new : Image) (class d : ℕ) : Type 0 where
  pub info : new (info_word d) ≡ class
  pub anchor : new (anchor_word d) ≡ full_anchor
  pub linked : (k : ℕ) → k + 1 < blocks_of class → new (first_of capacity class d k) ≡ first_of capacity class d (k + 1)
  pub others : (word : ℕ) → (IsInSuperblock capacity d word → ⊥) → word ≢ info_word d → word ≢ anchor_word d → new word ≡ image word

-- blocks of the cache went to superblock d: its anchor leads to the first of them, the last leads to the chain that was there, if there was one
pub record IsGivenBack (capacity : ℕ) (image new : Image) (s : Shape) (class d : ℕ) (before : List ℕ) (last state : ℕ) : Type 0 where
  pub first : ℕ
  pub begins : s.start class ≡ first_of capacity class d first
  pub linked : (s.chain d ≡ []) ⊎ (new last ≡ first_of capacity class d (anchor_first (image (anchor_word d))))
  pub anchor : new (anchor_word d) ≡ anchor_of state first (length (before ++ last ∷ []) + length (s.chain d))
  pub others : (word : ℕ) → word ≢ anchor_word d → word ≢ last → new word ≡ image word

-- the first words of `count` blocks of superblock d from block `index` on
abbrev pub firsts_from : ℕ → ℕ → ℕ → ℕ → ℕ → List ℕ
firsts_from capacity class d index zero = []
firsts_from capacity class d index (suc count) = first_of capacity class d index ∷ firsts_from capacity class d (index + 1) count

-- the first words of all blocks of superblock d
abbrev pub all_firsts : ℕ → ℕ → ℕ → List ℕ
all_firsts capacity class d = firsts_from capacity class d 0 (blocks_of class)
