-- A closed image whose own anchors and free list can be relied on: what they hold is known without a trace.
use Rattle.std.specs.Prelude.{◌≡◌, ◌≢◌, ℕ, ◌+◌, ◌*◌, ◌<◌, ◌≤◌, Option, List, length, Contains, AllPairs}
use Rattle.heap_model.specs.declared.block.Block.{Block}
use Rattle.heap_model.specs.Geometry.{info_word, anchor_word, link_word, start_word, superblock_words, clean}
use Rattle.heap_model.specs.Image.{Image}
use Rattle.heap_model.specs.Header.{HasGoodHeader, capacity_of, used_of, state_of}
use Rattle.heap_model.specs.Sizes.{IsClass, words_of_class, blocks_of}
use Rattle.heap_model.specs.Words.{anchor_state, anchor_first, anchor_count, empty_state, partial_state, full_anchor}
use Rattle.heap_model.specs.Blocks.{IsBlock, layout_of}
use Rattle.heap_model.specs.Recovered.{HasPartIn, IsBlockOfClass}
use Rattle.heap_model.specs.Chains.{IsChain, IsListOf}

-- the anchor of superblock d leads along this chain of different blocks of the class: some of its blocks, and not all
pub record HasPartialChain (image : Image) (class d : ℕ) (chain : List ℕ) : Type 0 where
  pub state : anchor_state (image (anchor_word d)) ≡ partial_state
  pub count : anchor_count (image (anchor_word d)) ≡ length chain
  pub some : 1 ≤ length chain
  pub not_all : length chain < blocks_of class
  pub linked : IsChain image (capacity_of image) class d
      (start_word (capacity_of image) d + anchor_first (image (anchor_word d)) * words_of_class class) chain
  pub different : AllPairs (λ x y. x ≢ y) chain

-- the anchor of superblock d, cut for the class, tells which of its blocks are free: all, none, or those of a chain
pub data HasOrderlyAnchor (image : Image) (class d : ℕ) : Type 0 where
  all_free : anchor_state (image (anchor_word d)) ≡ empty_state → HasOrderlyAnchor image class d
  none_free : image (anchor_word d) ≡ full_anchor → HasOrderlyAnchor image class d
  some_free : (chain : List ℕ) → HasPartialChain image class d chain → HasOrderlyAnchor image class d

-- a large block: one of a superblock or more; none of its superblocks is in the free list
pub record IsLargeOutside (image : Image) (free : List ℕ) (b : Block) : Type 0 where
  pub block : IsBlock (layout_of image) b
  pub large : superblock_words ≤ b.words
  pub outside : (d : ℕ) → HasPartIn (capacity_of image) b d → Contains free d → ⊥

-- superblock d is cut for a class, and its anchor tells of its blocks; or such a large block takes it (one at most does, since blocks never overlap)
pub data IsOrderlyOutside (image : Image) (free : List ℕ) (d : ℕ) : Type 0 where
  of_class : (class : ℕ) → IsClass class → image (info_word d) ≡ class → HasOrderlyAnchor image class d → IsOrderlyOutside image free d
  of_large : (b : Block) → IsLargeOutside image free b → HasPartIn (capacity_of image) b d → IsOrderlyOutside image free d

-- A closed image of so many bytes that tells what it holds. Its free list has taken superblocks with empty anchors;
-- each other taken superblock is of a class, or of a large block that was not freed. Where there is a limit, the kinds
-- of the roots are below it.
pub record IsOrderly (limit : Option ℕ) (bytes : ℕ) (image : Image) : Type 0 where
  pub header : HasGoodHeader limit bytes image
  pub closed : state_of image ≡ clean
  pub free : List ℕ
  pub listed : IsListOf image 0 free
  pub free_are : (d : ℕ) → Contains free d → (d < used_of image) × (anchor_state (image (anchor_word d)) ≡ empty_state)
  pub others : (d : ℕ) → d < used_of image → (Contains free d → ⊥) → IsOrderlyOutside image free d
  pub untaken : (d : ℕ) → used_of image ≤ d → d < capacity_of image
      → (image (info_word d) ≡ 0) × (image (anchor_word d) ≡ 0) × (image (link_word d) ≡ 0)

-- superblock d has been taken and is not in the free list
pub record IsOutsideFreeList (image : Image) (free : List ℕ) (d : ℕ) : Type 0 where
  pub taken : d < used_of image
  pub listed : IsListOf image 0 free
  pub outside : Contains free d → ⊥

-- The block is held by the anchors: it is of a full superblock of a class, or of a partial one and not in its chain, or
-- a large block; and none of its superblocks is in the free list. A superblock of a class with an empty anchor holds
-- nothing.
pub data IsHeldByAnchors (image : Image) (b : Block) : Type 0 where
  in_full : (free : List ℕ) (class d index : ℕ) → IsOutsideFreeList image free d
      → IsClass class → image (info_word d) ≡ class → image (anchor_word d) ≡ full_anchor
      → IsBlockOfClass (capacity_of image) class d index b → IsHeldByAnchors image b
  in_partial : (free chain : List ℕ) (class d index : ℕ) → IsOutsideFreeList image free d
      → IsClass class → image (info_word d) ≡ class → HasPartialChain image class d chain
      → IsBlockOfClass (capacity_of image) class d index b → (Contains chain b.first_word → ⊥) → IsHeldByAnchors image b
  as_large : (free : List ℕ) → IsListOf image 0 free → IsLargeOutside image free b → IsHeldByAnchors image b
