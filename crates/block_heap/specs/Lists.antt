-- The lists of descriptors of an open heap: list 0 is that of the free superblocks, the others are those of the classes.
use Rattle.std.specs.Prelude.{◌≡◌, ℕ, ◌+◌, List, Contains}
use Rattle.heap_model.specs.Geometry.{head_word, link_word}
use Rattle.heap_model.specs.Words.{head_first, head_pops}
use Rattle.heap_model.specs.Chains.{Follows}
use Rattle.block_heap.specs.Parts.{Parts, image_of}

-- the word of the head of a list
abbrev pub head_at : Parts → ℕ → ℕ
head_at p list = image_of p (head_word list)

-- the list has no descriptor
abbrev pub IsEmptyList : Parts → ℕ → Type 0
IsEmptyList p list = head_first (head_at p list) ≡ 0

-- the head leads along these descriptors
abbrev pub LeadsAlong : Parts → ℕ → List ℕ → Type 0
LeadsAlong p list ds = Follows (λ d. image_of p (link_word d)) p.capacity (head_first (head_at p list)) ds

-- superblock d is in the list: the head leads along descriptors to an end, and that of d is among them
abbrev pub IsInList : Parts → ℕ → ℕ → Type 0
IsInList p list d = (ds : List ℕ) × LeadsAlong p list ds × Contains ds d

-- the free list loses none
abbrev pub KeepsFree : Parts → Parts → Type 0
KeepsFree p q = (d : ℕ) → IsInList p 0 d → IsInList q 0 d

-- the list stays whole: its head leads along the same descriptors
abbrev pub KeepsList : Parts → Parts → ℕ → Type 0
KeepsList p q list = (ds : List ℕ) → LeadsAlong p list ds → LeadsAlong q list ds

-- so many pops were counted at the head of the class, and so many at that of the free list
pub record CountsPops (class here free : ℕ) (p q : Parts) : Type 0 where
  pub class_head : head_pops (head_at q class) ≡ head_pops (head_at p class) + here
  pub free_head : head_pops (head_at q 0) ≡ head_pops (head_at p 0) + free
