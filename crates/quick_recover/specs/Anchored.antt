-- What is read of an image whose anchors can be relied on: its free list, a chain, and a superblock.
use Rattle.std.specs.Prelude.{◌≡◌, ◌≢◌, ℕ, ◌+◌, ◌*◌, ◌%◌, ◌<◌, ◌≤◌, Bool, true, false, Option, List, [], ◌∷◌, get_or, length, slice_index, slice_index_or, Contains, AllPairs}
use Rattle.heap_model.specs.declared.block.Block.{Block}
use Rattle.heap_model.specs.Geometry.{info_word, anchor_word, link_word, head_word, start_word, state_word, clean}
use Rattle.heap_model.specs.Image.{Image}
use Rattle.heap_model.specs.Header.{IsWellFormed, HasGoodHeader, capacity_of, used_of}
use Rattle.heap_model.specs.Sizes.{words_of_class, blocks_of}
use Rattle.heap_model.specs.Words.{anchor_state, empty_state, full_anchor}
use Rattle.heap_model.specs.Blocks.{layout_of}
use Rattle.heap_model.specs.Recovered.{IsBlockOfClass, AreAscending}
use Rattle.heap_model.specs.Chains.{Walks, after, IsListOf}
use Rattle.heap_model.specs.Counting.{total, one_if}
use Rattle.quick_recover.specs.declared.chains.FreeBlocks.{FreeBlocks}
use Rattle.quick_recover.specs.declared.chains.FreeBlocks.TheVariants.{All, Marked}
use Rattle.heap_at_rest.specs.Orderly.{HasPartialChain, IsOrderlyOutside, IsOutsideFreeList, IsOrderly, IsHeldByAnchors}
use Rattle.heap_recover.specs.declared.roles.Role.{Role}
use Rattle.heap_recover.specs.declared.roles.Role.TheVariants.{Free, Partial, Full, Large}
use Rattle.heap_recover.specs.declared.surveys.Survey.{Survey}
use Rattle.heap_recover.specs.Marked.{IsKeptBelow, GoOnTo}
use Rattle.heap_recover.specs.Roles.{IsRole, IsSurvey}

-- the words are those of a well-formed image with so many superblocks, of which so many have been taken
pub record IsReadable (words : List ℕ) (capacity used : ℕ) : Type 0 where
  pub formed : IsWellFormed (8 * length words) (slice_index words)
  pub capacity_is : capacity ≡ capacity_of (slice_index words)
  pub used_is : used ≡ used_of (slice_index words)

-- the image is not orderly, whatever the kinds of its roots
pub record IsDisorderly (image : Image) : Type 0 where
  pub never : (limit : Option ℕ) (bytes : ℕ) → IsOrderly limit bytes image → ⊥

-- of so many numbers those are marked whose place is in the list
pub record AreMarks (place : ℕ → ℕ) (xs : List ℕ) (count : ℕ) (marks : List Bool) : Type 0 where
  pub long : length marks ≡ count
  pub marked : (n : ℕ) → n < count → get_or marks n false ≡ true → Contains xs (place n)
  pub unmarked : (n : ℕ) → n < count → get_or marks n false ≡ false → Contains xs (place n) → ⊥

-- a superblock of the free list has been taken, and its anchor is empty
pub record IsInFreeList (image : Image) (d : ℕ) : Type 0 where
  pub taken : d < used_of image
  pub empty : anchor_state (image (anchor_word d)) ≡ empty_state

-- the free list of the image, and the marks of its superblocks
pub record IsFreeList (image : Image) (free : List ℕ) (marks : List Bool) : Type 0 where
  pub listed : IsListOf image 0 free
  pub each : (d : ℕ) → Contains free d → IsInFreeList image d
  pub marked : AreMarks (λ d. d) free (used_of image) marks

-- it has a free list with these marks
pub record HasFreeList (image : Image) (marks : List Bool) : Type 0 where
  pub free : List ℕ
  pub is : IsFreeList image free marks

-- superblock d has been taken, and is not in the free list, which can be followed
pub record IsNotFreed (image : Image) (d : ℕ) : Type 0 where
  pub free : List ℕ
  pub is : IsOutsideFreeList image free d

-- from a number, each 1 more than a descriptor's index, the links lead along the descriptors to another number
abbrev pub Leads : (ℕ → ℕ) → ℕ → ℕ → List ℕ → ℕ → Type 0
Leads link capacity from [] to = from ≡ to
Leads link capacity from (d ∷ ds) to = (from ≡ d + 1) × (d < capacity) × Leads link capacity (link d) ds to

-- the first so many superblocks of the free list, which goes on with the number
pub record IsListTo (image : Image) (count to : ℕ) (marks : List Bool) : Type 0 where
  pub seen : List ℕ
  pub leads : Leads (λ d. image (link_word d)) (capacity_of image) (image (head_word 0) % 16777216) seen to
  pub each : (d : ℕ) → Contains seen d → IsInFreeList image d
  pub marked : AreMarks (λ d. d) seen (used_of image) marks
  pub counted : total one_if marks ≡ count

-- the word with which block `index` of superblock d begins when that is cut for the class
abbrev pub block_word : ℕ → ℕ → ℕ → ℕ → ℕ
block_word capacity class d index = start_word capacity d + index * words_of_class class

-- first words of different blocks of the class in superblock d
pub record AreDifferentBlocks (capacity class d : ℕ) (ws : List ℕ) : Type 0 where
  pub blocks : (b : ℕ) → Contains ws b → (index : ℕ) × IsBlockOfClass capacity class d index (record { first_word = b; words = words_of_class class })
  pub different : AllPairs (λ x y. x ≢ y) ws

-- the first so many blocks of a chain, which goes on with the word
pub record IsChainTo (image : Image) (capacity class d from count to : ℕ) (marks : List Bool) : Type 0 where
  pub seen : List ℕ
  pub long : length seen ≡ count
  pub walks : Walks image from seen
  pub leads : after image from seen ≡ to
  pub are : AreDifferentBlocks capacity class d seen
  pub marked : AreMarks (block_word capacity class d) seen (blocks_of class) marks

-- a chain of so many different blocks, some and not all, leads from the block with this index, and its blocks are marked
pub record HasChain (image : Image) (capacity class d first count : ℕ) (marks : List Bool) : Type 0 where
  pub chain : List ℕ
  pub some : 1 ≤ count
  pub not_all : count < blocks_of class
  pub long : length chain ≡ count
  pub walks : Walks image (block_word capacity class d first) chain
  pub are : AreDifferentBlocks capacity class d chain
  pub marked : AreMarks (block_word capacity class d) chain (blocks_of class) marks

-- there is no such chain
pub record HasNoChain (image : Image) (capacity class d first count : ℕ) : Type 0 where
  pub never : (chain : List ℕ) → 1 ≤ count → count < blocks_of class → length chain ≡ count → Walks image (block_word capacity class d first) chain
      → AreDifferentBlocks capacity class d chain → ⊥

-- the anchor of superblock d, of the class, tells that not all blocks are free, and these are marked
pub data IsToldBy (image : Image) (class d : ℕ) (marks : List Bool) : Type 0 where
  by_full : image (anchor_word d) ≡ full_anchor → AreMarks (block_word (capacity_of image) class d) [] (blocks_of class) marks
      → IsToldBy image class d marks
  by_chain : (chain : List ℕ) → HasPartialChain image class d chain → AreMarks (block_word (capacity_of image) class d) chain (blocks_of class) marks
      → IsToldBy image class d marks

-- the anchor tells which blocks are free: all, or those that are marked
abbrev pub TellsFree : Image → ℕ → ℕ → FreeBlocks → Type 0
TellsFree image class d All = anchor_state (image (anchor_word d)) ≡ empty_state
TellsFree image class d (Marked marks) = IsToldBy image class d marks

-- the chain of the anchor has these blocks
pub record ChainsSpares (image : Image) (class d : ℕ) (spares : List ℕ) : Type 0 where
  pub chain : List ℕ
  pub has : HasPartialChain image class d chain
  pub to : (w : ℕ) → Contains spares w → Contains chain w
  pub from : (w : ℕ) → Contains chain w → Contains spares w

-- the anchor of a superblock of the role
abbrev pub FitsAnchor : Image → ℕ → List ℕ → Role → Type 0
FitsAnchor image d spares Free = Unit {0}
FitsAnchor image d spares (Partial class) = ChainsSpares image class.number d spares
FitsAnchor image d spares (Full class) = image (anchor_word d) ≡ full_anchor
FitsAnchor image d spares Large = Unit {0}

-- superblock d has this role by its anchor
pub record IsReadIn (image : Image) (d : ℕ) (role : Role) : Type 0 where
  pub spares : List ℕ
  pub has_role : IsRole (layout_of image) (IsHeldByAnchors image) d role spares
  pub fits : FitsAnchor image d spares role

-- what the anchor of superblock d tells
pub record IsReadAs (image : Image) (d : ℕ) (survey : Survey) : Type 0 where
  pub surveyed : IsSurvey (layout_of image) (IsHeldByAnchors image) d survey
  pub fits : FitsAnchor image d survey.spares.items survey.role
  pub orderly : (free : List ℕ) → IsListOf image 0 free → (Contains free d → ⊥) → IsOrderlyOutside image free d

-- what the anchors of the superblocks below d tell
pub record AreRead (image : Image) (d end : ℕ) (held : List Block) (roles : List Role) : Type 0 where
  pub long : length roles ≡ d
  pub each : (e : ℕ) → e < d → IsReadIn image e (slice_index_or roles e Large)
  pub orderly : (free : List ℕ) (e : ℕ) → IsListOf image 0 free → e < d → (Contains free e → ⊥) → IsOrderlyOutside image free e
  pub in_order : AreAscending (λ (b : Block). b.first_word) (IsKeptBelow (capacity_of image) (IsHeldByAnchors image) d) held
  pub goes_on : GoOnTo (layout_of image) (IsHeldByAnchors image) d end

-- superblock d may begin a large block of so many superblocks: these have been taken, and those behind the first have
-- no info, and are not marked as free
pub record IsWhole (image : Image) (free : List Bool) (d count : ℕ) : Type 0 where
  pub fits : d + count ≤ used_of image
  pub each : (e : ℕ) → d < e → e < d + count → (image (info_word e) ≡ 0) × (get_or free e false ≡ false)

-- info, anchor and link of the superblocks that were not taken, from `used` up to d, are 0
pub record AreUntouched (image : Image) (d : ℕ) : Type 0 where
  pub each : (e : ℕ) → used_of image ≤ e → e < d
      → (image (info_word e) ≡ 0) × (image (anchor_word e) ≡ 0) × (image (link_word e) ≡ 0)

-- the superblocks that have been taken have these roles by their anchors
pub record HaveRoles (image : Image) (roles : List Role) : Type 0 where
  pub long : length roles ≡ used_of image
  pub each : (d : ℕ) → d < used_of image → IsReadIn image d (slice_index_or roles d Large)

-- the image is orderly if it was closed with a good header, and its anchors hold these blocks and give these roles
pub record TellsAll (image : Image) (held : List Block) (roles : List Role) : Type 0 where
  pub orderly : (limit : Option ℕ) (bytes : ℕ) → HasGoodHeader limit bytes image → image state_word ≡ clean → IsOrderly limit bytes image
  pub have : HaveRoles image roles
  pub in_order : AreAscending (λ (b : Block). b.first_word) (IsHeldByAnchors image) held
