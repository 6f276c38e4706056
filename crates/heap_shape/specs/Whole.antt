-- The shape of a running heap, of which nothing is in hand.
use Rattle.std.specs.Prelude.{◌≡◌, ℕ, ◌<◌, ◌≤◌, ◌⊎◌, List, Contains}
use Rattle.heap_model.specs.declared.block.Block.{Block}
use Rattle.heap_model.specs.Geometry.{lists, head_word, info_word, link_word, used_word, largest_capacity}
use Rattle.heap_model.specs.Image.{Image}
use Rattle.heap_model.specs.Sizes.{IsClass}
use Rattle.heap_model.specs.Words.{head_first}
use Rattle.heap_model.specs.Blocks.{IsBlock}
use Rattle.heap_model.specs.Chains.{Follows, Walks}
use Rattle.heap_model.specs.Counting.{times}
use Rattle.heap_at_rest.specs.Draining.{layout_at}
use Rattle.heap_shape.specs.Shape.{in_list, is_full, Shape, stands_in}
use Rattle.heap_shape.specs.Standing.{IsFirstOf, IsAs}

-- the word is the first one of a block of the class, in a superblock that is cut for it
pub record IsCachedIn (capacity : ℕ) (image : Image) (s : Shape) (class word : ℕ) : Type 0 where
  pub superblock : ℕ
  pub within : superblock < capacity
  pub is_first : IsFirstOf capacity class superblock word
  pub place : (s.place superblock ≡ in_list class) ⊎ ((s.place superblock ≡ is_full) × (image (info_word superblock) ≡ class))

-- every superblock is as its place says, every list and cache has what the shape says, and every held block is one of the image
pub record IsShape (capacity : ℕ) (image : Image) (held : List Block) (s : Shape) : Type 0 where
  pub small : capacity ≤ largest_capacity
  pub used : image used_word ≤ capacity
  pub named : (b : Block) → Contains held b → IsBlock (layout_at capacity image) b
  pub follows : (list : ℕ) → list < lists
      → Follows (λ d. image (link_word d)) capacity (head_first (image (head_word list))) (s.listed list)
  pub listed : (list d : ℕ) → list < lists → times d (s.listed list) ≡ stands_in (s.place d) list
  pub places : (d : ℕ) → d < capacity → IsAs capacity image s held d (s.place d)
  pub cached : (class word : ℕ) → IsClass class → Contains (s.cached class) word → IsCachedIn capacity image s class word
  pub walks : (class : ℕ) → IsClass class → Walks image (s.start class) (s.cached class)
