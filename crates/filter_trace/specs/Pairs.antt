-- A set of pairs of a block and a kind, as a list and as mark bits.
use Rattle.std.specs.Prelude.{◌≡◌, ℕ, ◌+◌, ◌*◌, ◌<◌, ◌≤◌, ◌^◌, Bool, true, false, List, [], ◌∷◌, ◌++◌, length, slice_index_or, slice_set, Contains}
use Rattle.std.specs.List.{count_by}
use Rattle.heap_model.specs.declared.block.Block.{Block}
use Rattle.heap_model.specs.Blocks.{Layout, IsBlock}

-- which mark a pair has
abbrev pub mark_of : ℕ → Block → ℕ → ℕ
mark_of kinds b kind = b.first_word * kinds + kind

-- there is a mark for each word of the image and each kind
pub record HasMarks (words kinds : ℕ) (marks : List Bool) : Type 0 where
  pub long : words * kinds ≤ length marks
  pub short : length marks < 2 ^ 64

-- what inserting a pair leaves: nothing new if it is marked, else the pair at the end and its mark
pub data Inserts (kinds : ℕ) (b : Block) (kind : ℕ) (pairs pairs' : List (Block × ℕ)) (marks marks' : List Bool) : Type 0 where
  present : slice_index_or marks (mark_of kinds b kind) false ≡ true → pairs' ≡ pairs → marks' ≡ marks
      → Inserts kinds b kind pairs pairs' marks marks'
  added : slice_index_or marks (mark_of kinds b kind) false ≡ false
      → pairs' ≡ pairs ++ (b, kind) ∷ [] → marks' ≡ slice_set marks (mark_of kinds b kind) true
      → Inserts kinds b kind pairs pairs' marks marks'

-- the mark is that of one of the pairs
pub record IsMarkOfPair (kinds : ℕ) (pairs : List (Block × ℕ)) (at : ℕ) : Type 0 where
  pub block : Block
  pub kind : ℕ
  pub pair : Contains pairs (block, kind)
  pub at_is : at ≡ mark_of kinds block kind

-- the pairs are of blocks of the layout and of kinds that there are, each once, and the marks tell them
pub record AreMarked (l : Layout) (kinds : ℕ) (pairs : List (Block × ℕ)) (marks : List Bool) : Type 0 where
  pub blocks : (b : Block) (kind : ℕ) → Contains pairs (b, kind) → IsBlock l b × (kind < kinds)
  pub marked : (b : Block) (kind : ℕ) → Contains pairs (b, kind) → slice_index_or marks (mark_of kinds b kind) false ≡ true
  pub only : (at : ℕ) → slice_index_or marks at false ≡ true → IsMarkOfPair kinds pairs at
  pub room : (b : Block) → IsBlock l b → b.first_word * kinds + kinds ≤ length marks
  pub short : length marks < 2 ^ 64
  pub once : count_by (λ mark. mark) marks ≡ length pairs
