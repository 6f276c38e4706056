-- What contracts see of the parts of an open heap.
use Rattle.std.specs.Prelude.{◌≡◌, ℕ, ◌+◌, List, None, slice_index_or}
use Rattle.heap_model.specs.declared.block.Block.{Block}
use Rattle.heap_model.specs.Image.{Image}
use Rattle.line_memory.specs.View.{View, volatile_at}
use Rattle.block_heap.specs.declared.arena.Arena.{Arena}
use Rattle.block_heap.specs.declared.cache.Cache.{Cache}
use Rattle.block_heap.specs.declared.held.HeldBlocks.{HeldBlocks}
use Rattle.heap_seat.specs.declared.look.Look.{Look}
use Rattle.block_heap.specs.Held.{held_of}
use Rattle.block_heap.specs.Medium.{StoresOnly}
use Rattle.block_heap.specs.MediumView.{medium_view}

-- words and caches, the blocks held, and what was read last
pub record Parts : Type 0 where
  pub words : View
  pub capacity : ℕ
  -- by class
  pub caches : List Cache
  pub blocks : HeldBlocks
  -- how many superblocks were taken since the heap was opened, and what was read last of `used` and of each head
  pub taken : ℕ
  pub used_look : Look
  pub head_looks : List Look

-- the parts of an open heap
abbrev pub parts_of : {C : Type 0} → Arena C → Parts
parts_of a = record {
  words = medium_view a.medium;
  capacity = a.geometry.capacity;
  caches = a.caches.items;
  blocks = a.held;
  taken = a.taken;
  used_look = a.used_look;
  head_looks = a.head_looks.items;
}

-- what loads see of each word
abbrev pub image_of : Parts → Image
image_of p word = volatile_at p.words word

-- the blocks that are held
abbrev pub held_in : Parts → List Block
held_in p = held_of p.blocks

-- the last look at the head of a list, of these; none was made yet at a list without one
abbrev pub no_look : Look
no_look = record { seen = 0; ticket = None; taken = 0 }

-- the last look at the head of a list
abbrev pub head_look : List Look → ℕ → Look
head_look looks list = slice_index_or looks list no_look

-- the cache of a class
abbrev pub cache_at : List Cache → ℕ → Cache
cache_at caches class = slice_index_or caches class (record { first = 0; count = 0 })

-- so many steps looked at words and stored nothing: loads see each word as before, what is durable of it stays or became
-- what loads see, and caches, blocks and the superblocks taken stay
pub record OnlyLooks (steps : ℕ) (p q : Parts) : Type 0 where
  pub volatile : q.words.volatile ≡ p.words.volatile
  pub stores : StoresOnly (λ _. ⊥) p.words q.words
  pub capacity : q.capacity ≡ p.capacity
  pub caches : q.caches ≡ p.caches
  pub blocks : q.blocks ≡ p.blocks
  pub taken : q.taken ≡ p.taken
  pub drawn : q.words.drawn ≡ p.words.drawn + steps
