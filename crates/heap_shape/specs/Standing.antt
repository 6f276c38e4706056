-- What stands in a superblock of a running heap, by its place.
use Rattle.std.specs.Prelude.{◌≡◌, ℕ, zero, suc, ◌+◌, ◌*◌, ◌<◌, ◌≤◌, ◌⊎◌, List, [], length, Contains}
use Rattle.heap_model.specs.declared.block.Block.{Block}
use Rattle.heap_model.specs.Geometry.{info_word, anchor_word, link_word, used_word, start_word}
use Rattle.heap_model.specs.Image.{Image}
use Rattle.heap_model.specs.Sizes.{IsClass, blocks_of, words_of_class}
use Rattle.heap_model.specs.Words.{anchor_state, anchor_first, anchor_count, empty_state, partial_state, full_anchor}
use Rattle.heap_model.specs.Chains.{Walks}
use Rattle.heap_model.specs.Counting.{times}
use Rattle.heap_at_rest.specs.Draining.{HasNoHeld}
use Rattle.heap_shape.specs.Shape.{Place, in_list, is_full, in_large, is_new, Shape}

-- the first word of block `index` of superblock d, cut for the class
abbrev pub first_of : ℕ → ℕ → ℕ → ℕ → ℕ
first_of capacity class d index = start_word capacity d + index * words_of_class class

-- the word is the first one of a block of the class in superblock d
pub record IsFirstOf (capacity class d word : ℕ) : Type 0 where
  pub index : ℕ
  pub below : index < blocks_of class
  pub at : word ≡ first_of capacity class d index

-- a held block begins at the word
pub record HoldsAt (held : List Block) (word : ℕ) : Type 0 where
  pub block : Block
  pub holds : Contains held block
  pub at : block.first_word ≡ word

-- how often a word is in the chain of its superblock, or in the cache of its class
abbrev pub times_free : Shape → ℕ → ℕ → ℕ → ℕ
times_free s class d word = times word (s.chain d) + times word (s.cached class)

-- a block of a superblock of the class is held, or free in exactly one place
pub data HasOneOwner (s : Shape) (held : List Block) (class d word : ℕ) : Type 0 where
  a_free : times_free s class d word ≡ 1 → (HoldsAt held word → ⊥) → HasOneOwner s held class d word
  a_held : times_free s class d word ≡ 0 → HoldsAt held word → HasOneOwner s held class d word

-- superblock d is cut for the class: each of its blocks has one owner, and its anchor leads along its chain
pub record IsOfClass (capacity : ℕ) (image : Image) (s : Shape) (held : List Block) (class d : ℕ) : Type 0 where
  pub is_class : IsClass class
  pub taken : d < image used_word
  pub info : image (info_word d) ≡ class
  pub owned : (index : ℕ) → index < blocks_of class → HasOneOwner s held class d (first_of capacity class d index)
  pub blocks : (word : ℕ) → Contains (s.chain d) word → IsFirstOf capacity class d word
  pub walks : Walks image (first_of capacity class d (anchor_first (image (anchor_word d)))) (s.chain d)
  pub count : anchor_count (image (anchor_word d)) ≡ length (s.chain d)

-- it has free blocks in its chain: all, or some
pub record HasFreeBlocks (capacity : ℕ) (image : Image) (s : Shape) (held : List Block) (class d : ℕ) : Type 0 where
  pub of_class : IsOfClass capacity image s held class d
  pub some : 1 ≤ length (s.chain d)
  pub state : ((anchor_state (image (anchor_word d)) ≡ empty_state) × (length (s.chain d) ≡ blocks_of class))
      ⊎ ((anchor_state (image (anchor_word d)) ≡ partial_state) × (length (s.chain d) < blocks_of class))

-- it has none in its chain
pub record IsFullSuperblock (capacity : ℕ) (image : Image) (s : Shape) (held : List Block) (d : ℕ) : Type 0 where
  pub of_class : IsOfClass capacity image s held (image (info_word d)) d
  pub none : s.chain d ≡ []
  pub anchor : image (anchor_word d) ≡ full_anchor

-- it was taken and no held block has a part in it
pub record IsFree (capacity : ℕ) (image : Image) (held : List Block) (d : ℕ) : Type 0 where
  pub taken : d < image used_word
  pub state : anchor_state (image (anchor_word d)) ≡ empty_state
  pub none : HasNoHeld capacity held d

-- a large block takes it
pub record IsTakenByLarge (image : Image) (d : ℕ) : Type 0 where
  pub taken : d < image used_word
  pub no_class : IsClass (image (info_word d)) → ⊥

-- it was never taken
pub record IsNew (image : Image) (d : ℕ) : Type 0 where
  pub past : image used_word ≤ d
  pub info : image (info_word d) ≡ 0
  pub anchor : image (anchor_word d) ≡ 0
  pub link : image (link_word d) ≡ 0

-- what its place says of superblock d: list 0 has the free ones, the list of a class those with free blocks
abbrev pub IsAs : ℕ → Image → Shape → List Block → ℕ → Place → Type 0
IsAs capacity image s held d (in_list zero) = IsFree capacity image held d
IsAs capacity image s held d (in_list (suc c)) = HasFreeBlocks capacity image s held (suc c) d
IsAs capacity image s held d is_full = IsFullSuperblock capacity image s held d
IsAs capacity image s held d in_large = IsTakenByLarge image d
IsAs capacity image s held d is_new = IsNew image d
