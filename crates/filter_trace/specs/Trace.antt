-- What the steps of a trace tell and leave, in terms of lists.
use Rattle.std.specs.Prelude.{◌≡◌, ℕ, ◌+◌, ◌<◌, Bool, List, length, Contains}
use Rattle.heap_model.specs.declared.block.Block.{Block}
use Rattle.heap_model.specs.Geometry.{roots, root_word}
use Rattle.heap_model.specs.Image.{Image}
use Rattle.heap_model.specs.Blocks.{layout_of}
use Rattle.heap_model.specs.Pointers.{Leads, LeadsOutside}
use Rattle.heap_model.specs.Reach.{Links, AnyRoot, RootLeads, Reach, words_in}
use Rattle.filter_trace.specs.declared.fault.TraceFault.{TraceFault}
use Rattle.filter_trace.specs.declared.fault.TraceFault.TheVariants.{Outside, Memory}
use Rattle.filter_trace.specs.declared.scan.Target.{Target}
use Rattle.filter_trace.specs.declared.scan.Target.TheVariants.{Null, To, Nowhere}
use Rattle.filter_trace.specs.Walks.{IsExtended}
use Rattle.filter_trace.specs.Pairs.{AreMarked, Inserts}

-- the fault tells this word, which is outside
abbrev pub TellsOfWord : Image → ℕ → TraceFault → Type 0
TellsOfWord image word (Outside at value) = (at ≡ word) × LeadsOutside image (image word) × (value ≡ image word)
TellsOfWord image word Memory = Unit {0}

-- the fault tells a root that is outside
abbrev pub TellsOfRoots : Image → TraceFault → Type 0
TellsOfRoots image (Outside at value) = (i : ℕ) × (i < roots) × (at ≡ root_word i) × LeadsOutside image (image at) × (value ≡ image at)
TellsOfRoots image Memory = Unit {0}

-- where a word leads
abbrev pub LeadsTo : Image → ℕ → Target → Type 0
LeadsTo image word Null = word ≡ 0
LeadsTo image word (To b) = Leads image word b
LeadsTo image word Nowhere = LeadsOutside image word

-- what following a word leaves: nothing new if it is null, else what it leads to, inserted
pub data Follows (image : Image) (count at kind : ℕ) (pairs pairs' : List (Block × ℕ)) (marks marks' : List Bool) : Type 0 where
  null : image at ≡ 0 → pairs' ≡ pairs → marks' ≡ marks → Follows image count at kind pairs pairs' marks marks'
  lead : (b : Block) → Leads image (image at) b → Inserts count b kind pairs pairs' marks marks'
      → Follows image count at kind pairs pairs' marks marks'

-- the word has been followed: it is not outside, and what it leads to is there
pub record IsFollowedWord (image : Image) (pairs : List (Block × ℕ)) (at kind : ℕ) : Type 0 where
  pub inside : LeadsOutside image (image at) → ⊥
  pub here : (b : Block) → Leads image (image at) b → Contains pairs (b, kind)

-- each linked word of the block has been followed
pub record IsFollowedBlock (image : Image) (links : Links) (pairs : List (Block × ℕ)) (a : Block) (from : ℕ) : Type 0 where
  pub each : (position kind : ℕ) → Contains (links from (words_in image a)) (position, kind)
      → IsFollowedWord image pairs (a.first_word + position) kind

-- what holds of each pair
pub record Each (holds : Block → ℕ → Type 0) (pairs : List (Block × ℕ)) : Type 0 where
  pub each : (b : Block) (kind : ℕ) → Contains pairs (b, kind) → holds b kind

-- all pairs that have been found are reached, and marked
pub record AreFoundPairs (image : Image) (kinds : ℕ → ℕ) (links : Links) (count : ℕ)
    (pairs : List (Block × ℕ)) (marks : List Bool) : Type 0 where
  pub marked : AreMarked (layout_of image) count pairs marks
  pub reached : Each (Reach image kinds links) pairs

-- what following the first `upto` roots leaves
pub record FollowsRoots (image : Image) (kinds : ℕ → ℕ) (count upto : ℕ) (pairs : List (Block × ℕ)) (marks : List Bool) : Type 0 where
  pub marked : AreMarked (layout_of image) count pairs marks
  pub rooted : Each (RootLeads image AnyRoot kinds) pairs
  pub followed : (i : ℕ) → i < upto → IsFollowedWord image pairs (root_word i) (kinds i)

-- what following these links of a block leaves
pub record FollowsLinks (image : Image) (kinds : ℕ → ℕ) (links : Links) (count : ℕ) (a : Block)
    (upto : List (ℕ × ℕ)) (pairs pairs' : List (Block × ℕ)) (marks marks' : List Bool) : Type 0 where
  pub long : length marks' ≡ length marks
  pub found : AreFoundPairs image kinds links count pairs' marks'
  pub grown : IsExtended pairs pairs'
  pub followed : (position kind : ℕ) → Contains upto (position, kind) → IsFollowedWord image pairs' (a.first_word + position) kind

-- what a trace keeps once it has followed the roots: each pair is reached and marked, and what the roots lead to is there
pub record HasRoots (image : Image) (kinds : ℕ → ℕ) (links : Links) (count : ℕ) (pairs : List (Block × ℕ)) (marks : List Bool) : Type 0 where
  pub found : AreFoundPairs image kinds links count pairs marks
  pub roots_followed : (i : ℕ) → i < roots → IsFollowedWord image pairs (root_word i) (kinds i)
