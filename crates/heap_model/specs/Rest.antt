-- A heap at rest: nothing is claimed, cached or batched, and lists, chains and anchors are right for exactly the held blocks.
use Rattle.std.specs.Prelude.{◌≡◌, ◌≢◌, ℕ, ◌+◌, ◌*◌, ◌<◌, ◌≤◌, ◌↔◌, ◌&&◌, nat_lt, nat_le, List, [], map, length, Contains, AllPairs, slice_index}
use Rattle.std.specs.List.{range_with_len}
use Rattle.heap_model.specs.declared.block.Block.{Block}
use Rattle.heap_model.specs.Geometry.{lists, head_word, info_word, anchor_word, link_word, start_word, superblock_words}
use Rattle.heap_model.specs.Image.{Image}
use Rattle.heap_model.specs.Header.{IsWellFormed, capacity_of, used_of}
use Rattle.heap_model.specs.Sizes.{IsClass, blocks_of, words_of_class}
use Rattle.heap_model.specs.Words.{anchor_state, anchor_first, anchor_count, empty_state, partial_state, full_anchor}
use Rattle.heap_model.specs.Blocks.{layout_of, IsBlock}
use Rattle.heap_model.specs.Recovered.{HasPartIn, IsBlockOfClass}
use Rattle.heap_model.specs.Chains.{Follows, IsChain}
use Rattle.heap_model.specs.Counting.{times, total, below, one_if}

-- the numbers of the lists: 0 for the free superblocks, then the classes
abbrev pub list_numbers : List ℕ
list_numbers = range_with_len 0 lists

-- 1 where superblock d is one of those that the large block takes: a block of a superblock or more that has a word in d
abbrev pub large_part : ℕ → ℕ → Block → ℕ
large_part capacity d b =
    one_if (nat_le superblock_words b.words
    && (nat_lt b.first_word (start_word capacity (d + 1)) && nat_lt (start_word capacity d) (b.first_word + b.words)))

-- the anchor of a superblock of the class tells the chain of its free blocks: how many, the first, and the state, which
-- is empty where all are free, full where none is, and else partial
pub record IsAnchored (image : Image) (class d : ℕ) (chain : List ℕ) : Type 0 where
  pub linked : IsChain image (capacity_of image) class d
      (start_word (capacity_of image) d + anchor_first (image (anchor_word d)) * words_of_class class) chain
  pub count : anchor_count (image (anchor_word d)) ≡ length chain
  pub empty : (anchor_state (image (anchor_word d)) ≡ empty_state) ↔ (length chain ≡ blocks_of class)
  pub full : (image (anchor_word d) ≡ full_anchor) ↔ (length chain ≡ 0)
  pub partial : length chain ≢ 0 → length chain ≢ blocks_of class → anchor_state (image (anchor_word d)) ≡ partial_state

-- each taken superblock is in one place: a list, full in no list, or a held large block; each block of a superblock of
-- a class is in its chain or held, and no held block has a part in a free one
pub record IsShaped (image : Image) (held : List Block) : Type 0 where
  pub descriptors : ℕ → List ℕ
  pub full : ℕ → ℕ
  pub chains : ℕ → List ℕ
  pub follows : (list : ℕ) → list < lists
      → Follows (λ d. image (link_word d)) (capacity_of image) (image (head_word list)) (descriptors list)
  pub one_place : (d : ℕ)
      → total (λ list. times d (descriptors list)) list_numbers + full d + total (large_part (capacity_of image) d) held
      ≡ below d (used_of image)
  pub free : (d : ℕ) → 0 < times d (descriptors 0)
      → (anchor_state (image (anchor_word d)) ≡ empty_state) × ((b : Block) → Contains held b → HasPartIn (capacity_of image) b d → ⊥)
  pub in_class : (class d : ℕ) → IsClass class → 0 < times d (descriptors class)
      → (image (info_word d) ≡ class) × (image (anchor_word d) ≢ full_anchor) × IsAnchored image class d (chains d)
  pub is_full : (d : ℕ) → 0 < full d → IsClass (image (info_word d)) × (image (anchor_word d) ≡ full_anchor) × (chains d ≡ [])
  pub in_large : (d : ℕ) → 0 < total (large_part (capacity_of image) d) held → anchor_state (image (anchor_word d)) ≢ partial_state
  pub one_owner : (class d index : ℕ) (b : Block) → IsClass class → 0 < times d (descriptors class) + full d → image (info_word d) ≡ class
      → IsBlockOfClass (capacity_of image) class d index b
      → times b.first_word (chains d) + times b.first_word (map (λ (h : Block). h.first_word) held) ≡ 1
  pub untaken : (d : ℕ) → used_of image ≤ d → d < capacity_of image
      → (image (info_word d) ≡ 0) × (image (anchor_word d) ≡ 0) × (image (link_word d) ≡ 0)

-- a heap at rest with these words and held blocks: a good header, and the held blocks in order of offset
pub record IsReady (words : List ℕ) (held : List Block) : Type 0 where
  pub formed : IsWellFormed (8 * length words) (slice_index words)
  pub blocks : (b : Block) → Contains held b → IsBlock (layout_of (slice_index words)) b
  pub ascending : AllPairs (λ (a b : Block). a.first_word < b.first_word) held
  pub shaped : IsShaped (slice_index words) held
