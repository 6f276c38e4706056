-- What the persistent roots of an image reach, through the links that a filter lists (Ralloc's recoverability and filter functions).
use Rattle.std.specs.Prelude.{◌≡◌, ℕ, ◌+◌, ◌<◌, List, length, Contains, Bool, IsTrue}
use Rattle.heap_model.specs.declared.block.Block.{Block}
use Rattle.heap_model.specs.Geometry.{roots, root_word}
use Rattle.heap_model.specs.Image.{Image, words_from}
use Rattle.heap_model.specs.Header.{kinds_of}
use Rattle.heap_model.specs.Blocks.{IsBlock, layout_of}
use Rattle.heap_model.specs.Pointers.{Leads, LeadsOutside}

-- a filter: for a block of a kind with these words, the positions of its links in the block, each with the kind of what it leads to
abbrev pub Links : Type 0
Links = ℕ → List ℕ → List (ℕ × ℕ)

-- the words of a block
abbrev pub words_in : Image → Block → List ℕ
words_in image b = words_from image b.first_word b.words

-- the filter's positions lie in the block, and its kinds are below the limit
pub record AreInside (limit : ℕ) (links : Links) : Type 0 where
  pub position : (kind : ℕ) (words : List ℕ) (at to : ℕ) → Contains (links kind words) (at, to) → at < length words
  pub kind : (kind : ℕ) (words : List ℕ) (at to : ℕ) → Contains (links kind words) (at, to) → to < limit

-- the least set of pairs of a block and a kind that has those to start from, and those that links lead to from its own pairs
pub data Closure {Kind : Type 0} (starts : Block → Kind → Type 0) (leads : Block → Kind → Block → Kind → Type 0)
    : Block → Kind → Type 0 where
  by_start : (b : Block) (kind : Kind) → starts b kind → Closure starts leads b kind
  by_link : (a b : Block) (from kind : Kind) → Closure starts leads a from → leads a from b kind → Closure starts leads b kind

-- one of the chosen roots leads to the block; `kinds` has the kind of each root
pub record RootLeads (image : Image) (chosen : ℕ → Type 0) (kinds : ℕ → ℕ) (b : Block) (kind : ℕ) : Type 0 where
  pub root : ℕ
  pub below : root < roots
  pub is_chosen : chosen root
  pub kind_is : kind ≡ kinds root
  pub leads : Leads image (image (root_word root)) b

-- a link of block a, of kind `from`, leads to block b, as one of the kind
pub record LinkLeads (image : Image) (links : Links) (a : Block) (from : ℕ) (b : Block) (kind : ℕ) : Type 0 where
  pub position : ℕ
  pub listed : Contains (links from (words_in image a)) (position, kind)
  pub leads : Leads image (image (a.first_word + position)) b

-- the chosen roots, and the links from there, reach the block as one of the kind
abbrev pub ReachFrom : Image → (ℕ → Type 0) → (ℕ → ℕ) → Links → Block → ℕ → Type 0
ReachFrom image chosen kinds links = Closure (RootLeads image chosen kinds) (LinkLeads image links)

-- each root is chosen
abbrev pub AnyRoot : ℕ → Type 0
AnyRoot root = Unit {0}

-- all roots together, and the links from there, reach the block as one of the kind
abbrev pub Reach : Image → (ℕ → ℕ) → Links → Block → ℕ → Type 0
Reach image = ReachFrom image AnyRoot

-- tracing from the chosen roots looks at the word at the index: it is such a root, or a linked word of a reached block
pub data IsTracedFrom (image : Image) (chosen : ℕ → Type 0) (kinds : ℕ → ℕ) (links : Links) : ℕ → Type 0 where
  is_root : (root at : ℕ) → root < roots → chosen root → at ≡ root_word root → IsTracedFrom image chosen kinds links at
  is_linked : (a : Block) (from position kind at : ℕ) → ReachFrom image chosen kinds links a from
      → Contains (links from (words_in image a)) (position, kind)
      → at ≡ a.first_word + position → IsTracedFrom image chosen kinds links at

-- the same from all roots together
abbrev pub IsTraced : Image → (ℕ → ℕ) → Links → ℕ → Type 0
IsTraced image = IsTracedFrom image AnyRoot

-- what a trace of the one image looks at is in the other as it is in the one: each word, and of each reached block that it is a block, and its links
pub record TracesAlike (image other : Image) (chosen : ℕ → Type 0) (kinds : ℕ → ℕ) (links : Links) : Type 0 where
  pub same_words : (at : ℕ) → IsTracedFrom image chosen kinds links at → other at ≡ image at
  pub are_blocks : (b : Block) (kind : ℕ) → ReachFrom image chosen kinds links b kind → IsBlock (layout_of other) b
  pub same_links : (b : Block) (kind : ℕ) → ReachFrom image chosen kinds links b kind
      → links kind (words_in other b) ≡ links kind (words_in image b)

-- tracing looks at the word at the index, which is neither null nor a pointer to a block
pub record IsOutside (image : Image) (kinds : ℕ → ℕ) (links : Links) (at : ℕ) : Type 0 where
  pub traced : IsTraced image kinds links at
  pub outside : LeadsOutside image (image at)

-- the block is reached, as one of some kind
pub record IsReached (image : Image) (kinds : ℕ → ℕ) (links : Links) (b : Block) : Type 0 where
  pub kind : ℕ
  pub reach : Reach image kinds links b kind

-- a set of pairs, as a test, that has what the roots lead to, and what the links of its members lead to
pub record IsClosed (image : Image) (kinds : ℕ → ℕ) (links : Links) (has : Block → ℕ → Bool) : Type 0 where
  pub roots_in : (i : ℕ) (b : Block) → i < roots → Leads image (image (root_word i)) b → IsTrue (has b (kinds i))
  pub links_in : (a b : Block) (from position kind : ℕ) → IsTrue (has a from)
      → Contains (links from (words_in image a)) (position, kind)
      → Leads image (image (a.first_word + position)) b → IsTrue (has b kind)

-- what the roots reach with the kinds that the image stores for them
abbrev pub ReachIn : Image → Links → Block → ℕ → Type 0
ReachIn image links = Reach image (kinds_of image) links

-- the same of a block that is reached as one of some kind
abbrev pub IsReachedIn : Image → Links → Block → Type 0
IsReachedIn image links = IsReached image (kinds_of image) links

-- the same of a word that leads outside
abbrev pub IsOutsideIn : Image → Links → ℕ → Type 0
IsOutsideIn image links = IsOutside image (kinds_of image) links
