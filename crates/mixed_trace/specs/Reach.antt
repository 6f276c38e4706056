-- What roots reach where each has a mode: the blocks of a kind through the links that a filter lists, those of no
-- filter through every word that names a block.
use Rattle.std.specs.Prelude.{◌≡◌, ℕ, ◌+◌, ◌<◌, List, Contains, slice_index_or}
use Rattle.heap_model.specs.declared.block.Block.{Block}
use Rattle.heap_model.specs.Geometry.{roots, root_word}
use Rattle.heap_model.specs.Image.{Image}
use Rattle.heap_model.specs.Pointers.{Leads, LeadsOutside}
use Rattle.heap_model.specs.Reach.{Links, Closure, words_in}
use Rattle.mixed_trace.specs.declared.mode.Mode.{Mode}
use Rattle.mixed_trace.specs.declared.mode.Mode.TheVariants.{Kind, All}

-- the mode of each root
abbrev pub modes_of : List Mode → ℕ → Mode
modes_of modes root = slice_index_or modes root (Kind 0)

-- a kind lies below the limit
abbrev pub FitsBelow : ℕ → Mode → Type 0
FitsBelow limit (Kind kind) = kind < limit
FitsBelow limit All = Unit {0}

-- The word at the position of the block, which has the first mode, counts as a link, and what it leads to has the
-- second: of a block of a kind what the filter lists, of any other each word.
abbrev pub CountsAs : Image → Links → Block → Mode → ℕ → Mode → Type 0
CountsAs image links a (Kind from) position (Kind kind) = Contains (links from (words_in image a)) (position, kind)
CountsAs image links a (Kind from) position All = ⊥
CountsAs image links a All position (Kind kind) = ⊥
CountsAs image links a All position All = position < a.words

-- a root leads to the block, and has the mode
pub record RootLeadsAs (image : Image) (modes : ℕ → Mode) (b : Block) (mode : Mode) : Type 0 where
  pub root : ℕ
  pub below : root < roots
  pub mode_is : mode ≡ modes root
  pub leads : Leads image (image (root_word root)) b

-- a word of block a, which has the mode `from`, counts and leads to block b, which then has the other mode
pub record WordLeadsAs (image : Image) (links : Links) (a : Block) (from : Mode) (b : Block) (mode : Mode) : Type 0 where
  pub position : ℕ
  pub counts : CountsAs image links a from position mode
  pub leads : Leads image (image (a.first_word + position)) b

-- the roots, and the words that count from there, reach the block as one of the mode
abbrev pub ReachMixed : Image → (ℕ → Mode) → Links → Block → Mode → Type 0
ReachMixed image modes links = Closure (RootLeadsAs image modes) (WordLeadsAs image links)

-- the block is reached, as one of some mode
pub record IsReachedMixed (image : Image) (modes : ℕ → Mode) (links : Links) (b : Block) : Type 0 where
  pub mode : Mode
  pub reach : ReachMixed image modes links b mode

-- the word at the index must be null or lead to a block: it is a root of a kind, or a word that the filter lists of a
-- block that is reached as one of a kind
pub data IsTracedMixed (image : Image) (modes : ℕ → Mode) (links : Links) : ℕ → Type 0 where
  is_root : (root kind at : ℕ) → root < roots → modes root ≡ Kind kind → at ≡ root_word root → IsTracedMixed image modes links at
  is_linked : (a : Block) (from position kind at : ℕ) → ReachMixed image modes links a (Kind from)
      → Contains (links from (words_in image a)) (position, kind) → at ≡ a.first_word + position
      → IsTracedMixed image modes links at

-- it does not: of other roots and words none is refused
pub record IsOutsideMixed (image : Image) (modes : ℕ → Mode) (links : Links) (at : ℕ) : Type 0 where
  pub traced : IsTracedMixed image modes links at
  pub outside : LeadsOutside image (image at)
