-- When the parts of an open heap are right, with nothing in hand.
use Rattle.std.specs.Prelude.{◌≡◌, ◌≢◌, ℕ, ◌+◌, ◌*◌, ◌<◌, ◌≤◌, ◌⊎◌, ◌^◌, List, length, slice_index}
use Rattle.heap_model.specs.Geometry.{lists, head_word, info_word, used_word, start_word}
use Rattle.heap_model.specs.Sizes.{IsClass, blocks_of, words_of_class}
use Rattle.heap_model.specs.Words.{head_pops}
use Rattle.heap_seat.specs.Looks.{IsMade}
use Rattle.heap_shape.specs.Shape.{Shape, in_list, is_full}
use Rattle.heap_shape.specs.Whole.{IsShape}
use Rattle.line_memory.specs.View.{View, volatile_at, durable_at}
use Rattle.block_heap.specs.declared.cache.Cache.{Cache}
use Rattle.block_heap.specs.declared.held.HeldBlocks.{HeldBlocks}
use Rattle.heap_model.specs.declared.block.Block.{Block}
use Rattle.block_heap.specs.Links.{IsOpen}
use Rattle.block_heap.specs.AllocatorWords.{StoresAsAllocator}
use Rattle.block_heap.specs.Parts.{Parts, image_of, held_in, cache_at, head_look}

-- the cache is that of the shape, and has no more blocks than a superblock
pub record IsCacheOf (s : Shape) (class : ℕ) (cache : Cache) : Type 0 where
  pub first : cache.first ≡ s.start class
  pub count : cache.count ≡ length (s.cached class)
  pub most : cache.count ≤ blocks_of class

-- the sizes by superblock are those of the classes
pub record KnowsSizes (capacity : ℕ) (s : Shape) (info : ℕ → ℕ) (blocks : HeldBlocks) : Type 0 where
  pub start : blocks.start ≡ start_word capacity 0
  pub long : length blocks.words.items ≡ capacity
  pub sizes : (d : ℕ) → d < capacity → IsClass (info d) → (s.place d ≡ in_list (info d)) ⊎ (s.place d ≡ is_full)
      → slice_index blocks.words.items d ≡ words_of_class (info d)

-- infos and `used` are durable as loads see them
pub record HasDurableInfos (capacity : ℕ) (v : View) : Type 0 where
  pub infos : (d : ℕ) → d < capacity → durable_at v (info_word d) ≡ volatile_at v (info_word d)
  pub used : durable_at v used_word ≡ volatile_at v used_word

-- the parts are right: the words have a shape, which caches, sizes and the held blocks fit, and the counts are bounded
pub record IsRunning (p : Parts) : Type 0 where
  pub words_open : IsOpen p.capacity p.words
  pub below : p.words.drawn ≤ p.words.budget
  pub bounded : p.words.budget < 2 ^ 40
  pub caches_long : length p.caches ≡ lists
  pub looks_long : length p.head_looks ≡ lists
  pub shape : Shape
  pub is : IsShape p.capacity (image_of p) (held_in p) shape
  pub caches : (class : ℕ) → IsClass class → IsCacheOf shape class (cache_at p.caches class)
  pub sizes : KnowsSizes p.capacity shape (λ d. image_of p (info_word d)) p.blocks
  pub settled : HasDurableInfos p.capacity p.words
  pub pops : (list : ℕ) → list < lists → 2 * head_pops (image_of p (head_word list)) ≤ p.words.drawn
  pub knows : image_of p used_word + p.used_look.taken ≡ p.used_look.seen + p.taken
  pub few : p.taken ≤ image_of p used_word

-- no cache has as many blocks as a superblock, but perhaps that of this class
pub record CachesAreShort (p : Parts) (but : ℕ) : Type 0 where
  pub each : (class : ℕ) → IsClass class → class ≢ but → (cache_at p.caches class).count < blocks_of class

-- each last look is the one from before, or was made in between
pub record MakesLooks (p q : Parts) : Type 0 where
  pub used : (q.used_look ≡ p.used_look) ⊎ IsMade p.words.drawn q.words.drawn p.taken q.taken q.used_look
  pub heads : (list : ℕ) → (head_look q.head_looks list ≡ head_look p.head_looks list)
      ⊎ IsMade p.words.drawn q.words.drawn p.taken q.taken (head_look q.head_looks list)

-- the parts work while these blocks are held, and what is known of `used` stays
pub record LeavesHeld (held : List Block) (p q : Parts) : Type 0 where
  pub capacity : q.capacity ≡ p.capacity
  pub as_allocator : StoresAsAllocator p.capacity held p.words q.words
  pub knows : p.used_look.seen + q.used_look.taken ≡ q.used_look.seen + p.used_look.taken
  pub taken : p.taken ≤ q.taken
  pub looks : MakesLooks p q
