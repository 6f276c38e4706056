-- What recovery makes of an image: every word of it, from the image and the kept blocks.
use Rattle.std.specs.Prelude.{◌≡◌, ℕ, zero, suc, ◌+◌, ◌*◌, ◌<◌, ◌≤◌, ◌⊎◌, List, [], ◌∷◌, length, Contains}
use Rattle.heap_model.specs.declared.block.Block.{Block}
use Rattle.heap_model.specs.Geometry.{lists, roots, head_word, info_word, anchor_word, link_word, root_word, kind_word, start_word, state_word, dirty, magic_word, version_word, capacity_word, used_word, IsReserved}
use Rattle.heap_model.specs.Image.{Image}
use Rattle.heap_model.specs.Header.{capacity_of}
use Rattle.heap_model.specs.Sizes.{IsClass, words_of_class}
use Rattle.heap_model.specs.Words.{anchor_of, partial_state, full_anchor}
use Rattle.heap_model.specs.Blocks.{Layout, layout_of}
use Rattle.heap_model.specs.Recovered.{HasPartIn, IsFreeSuperblock, IsBlockOfClass, AreAscending}
use Rattle.heap_model.specs.Chains.{Follows, Walks}

-- the superblock holds a part of a kept block
pub record HoldsKept (l : Layout) (kept : Block → Type 0) (d : ℕ) : Type 0 where
  pub block : Block
  pub is_kept : kept block
  pub part : HasPartIn l.capacity block d

-- w is the first word of a block of the class in superblock d that is not kept
pub record IsSpare (l : Layout) (kept : Block → Type 0) (class d w : ℕ) : Type 0 where
  pub index : ℕ
  pub block : Block
  pub is_block : IsBlockOfClass l.capacity class d index block
  pub first : block.first_word ≡ w
  pub unkept : kept block → ⊥

-- a superblock of the class with some kept blocks, and some that are not
pub record IsPartial (l : Layout) (kept : Block → Type 0) (class d : ℕ) : Type 0 where
  pub taken : d < l.used
  pub info_is : l.info d ≡ class
  pub holds : HoldsKept l kept d
  pub spare : (w : ℕ) × IsSpare l kept class d w

-- a superblock of the class all of whose blocks are kept
pub record IsFullyKept (l : Layout) (kept : Block → Type 0) (class d : ℕ) : Type 0 where
  pub taken : d < l.used
  pub info_is : l.info d ≡ class
  pub all : (index : ℕ) (b : Block) → IsBlockOfClass l.capacity class d index b → kept b

-- a superblock that a kept large block takes: it holds a part of a kept block, and its info is no class
pub record IsInLarge (l : Layout) (kept : Block → Type 0) (d : ℕ) : Type 0 where
  pub taken : d < l.used
  pub holds : HoldsKept l kept d
  pub no_class : IsClass (l.info d) → ⊥

-- the superblocks that recovery puts into a list: list 0 has the free ones, the list of a class those with some kept blocks
abbrev pub IsListed : Layout → (Block → Type 0) → ℕ → ℕ → Type 0
IsListed l kept zero = IsFreeSuperblock l kept
IsListed l kept (suc c) = IsPartial l kept (suc c)

-- the number of the first descriptor of a list: 1 more than its index, or 0
abbrev pub first_number : List ℕ → ℕ
first_number [] = 0
first_number (d ∷ ds) = d + 1

-- all but the last
abbrev pub but_last : List ℕ → List ℕ
but_last [] = []
but_last (x ∷ []) = []
but_last (x ∷ y ∷ ys) = x ∷ but_last (y ∷ ys)

-- the words that recovery leaves alone outside superblocks: the header's but the state, the roots, their kinds, and those without a meaning
pub data IsKeptWord (capacity : ℕ) : ℕ → Type 0 where
  in_header : (word : ℕ) → (word ≡ magic_word) ⊎ ((word ≡ version_word) ⊎ ((word ≡ capacity_word) ⊎ (word ≡ used_word)))
      → IsKeptWord capacity word
  is_root : (i word : ℕ) → i < roots → word ≡ root_word i → IsKeptWord capacity word
  is_kind : (i word : ℕ) → i < roots → word ≡ kind_word capacity i → IsKeptWord capacity word
  is_reserved : (word : ℕ) → IsReserved capacity word → IsKeptWord capacity word

-- the info and the anchor of a superblock
pub record HasInfoAndAnchor (image : Image) (d info anchor : ℕ) : Type 0 where
  pub info_is : image (info_word d) ≡ info
  pub anchor_is : image (anchor_word d) ≡ anchor

-- a partial superblock of the class keeps its info, and its anchor leads along the chain of its other blocks
pub record IsRechained (old new : Image) (class d : ℕ) (chain : List ℕ) : Type 0 where
  pub first : ℕ
  pub words : HasInfoAndAnchor new d class (anchor_of partial_state first (length chain))
  pub walks : Walks new (start_word (capacity_of old) d + first * words_of_class class) chain

-- what recovery makes of an image: lists from the lowest descriptor to the highest, heads without pops, chains in ascending order
pub record IsRecovered (old new : Image) (kept : Block → Type 0) : Type 0 where
  pub descriptors : ℕ → List ℕ
  pub chains : ℕ → List ℕ
  pub listed : (list : ℕ) → list < lists → AreAscending (λ d. d) (IsListed (layout_of old) kept list) (descriptors list)
  pub chained : (class d : ℕ) → IsClass class → IsPartial (layout_of old) kept class d
      → AreAscending (λ w. w) (IsSpare (layout_of old) kept class d) (chains d)
  pub state : new state_word ≡ dirty
  pub same : (word : ℕ) → IsKeptWord (capacity_of old) word → new word ≡ old word
  pub heads : (list : ℕ) → list < lists → new (head_word list) ≡ first_number (descriptors list)
  pub links : (list : ℕ) → list < lists
      → Follows (λ d. new (link_word d)) (capacity_of old) (first_number (descriptors list)) (descriptors list)
  pub unlisted : (d : ℕ) → d < capacity_of old → ((list : ℕ) → list < lists → Contains (descriptors list) d → ⊥) → new (link_word d) ≡ 0
  pub free : (d : ℕ) → IsFreeSuperblock (layout_of old) kept d → HasInfoAndAnchor new d 0 0
  pub partial : (class d : ℕ) → IsClass class → IsPartial (layout_of old) kept class d → IsRechained old new class d (chains d)
  pub full : (class d : ℕ) → IsClass class → IsFullyKept (layout_of old) kept class d → HasInfoAndAnchor new d class full_anchor
  pub in_large : (d : ℕ) → IsInLarge (layout_of old) kept d → HasInfoAndAnchor new d (old (info_word d)) full_anchor
  pub untaken : (d : ℕ) → (layout_of old).used ≤ d → d < capacity_of old → HasInfoAndAnchor new d 0 0
  pub inside : (word : ℕ) → start_word (capacity_of old) 0 ≤ word
      → ((class d : ℕ) → IsClass class → IsPartial (layout_of old) kept class d → Contains (but_last (chains d)) word → ⊥)
      → new word ≡ old word
