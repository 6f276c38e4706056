-- What an allocator may store to, and what stays of the held blocks whatever it does.
use Rattle.std.specs.Prelude.{◌≡◌, ℕ, ◌+◌, ◌<◌, ◌≤◌, List, Option, Some, Contains}
use Rattle.heap_model.specs.declared.block.Block.{Block}
use Rattle.heap_model.specs.Geometry.{lists, roots, largest_capacity, kind_word, head_word, info_word, anchor_word, link_word, used_word, capacity_word, start_word, superblocks_end}
use Rattle.heap_model.specs.Blocks.{IsBlock, IsIn}
use Rattle.heap_model.specs.Recovered.{HasPartIn}
use Rattle.heap_at_rest.specs.Draining.{HasNoHeld}
use Rattle.line_memory.specs.View.{View, volatile_at, durable_at}
use Rattle.block_heap.specs.Medium.{StoresOnly}

-- `used` is at most the capacity, as loads see it and as it is durable
pub record UsedFits (capacity : ℕ) (v : View) : Type 0 where
  pub volatile : volatile_at v used_word ≤ capacity
  pub durable : durable_at v used_word ≤ capacity

-- a word that an allocator may store to while these blocks are held: `used`, heads and descriptors, but no info of a
-- superblock that a held block has a part in; and words of superblocks that no held block has
pub data IsAllocatorWord (capacity : ℕ) (held : List Block) (word : ℕ) : Type 0 where
  is_used : word ≡ used_word → IsAllocatorWord capacity held word
  is_head : (list : ℕ) → list < lists → word ≡ head_word list → IsAllocatorWord capacity held word
  is_info : (d : ℕ) → d < capacity → HasNoHeld capacity held d → word ≡ info_word d → IsAllocatorWord capacity held word
  is_anchor : (d : ℕ) → d < capacity → word ≡ anchor_word d → IsAllocatorWord capacity held word
  is_link : (d : ℕ) → d < capacity → word ≡ link_word d → IsAllocatorWord capacity held word
  is_inside : start_word capacity 0 ≤ word → word < superblocks_end capacity → ((b : Block) → Contains held b → IsIn b word → ⊥)
      → IsAllocatorWord capacity held word

-- it stores to no other word, and `used` rises, of what loads see and of what is durable, and not past the capacity
pub record StoresAsAllocator (capacity : ℕ) (held : List Block) (v w : View) : Type 0 where
  pub stores : StoresOnly (IsAllocatorWord capacity held) v w
  pub used : volatile_at v used_word ≤ volatile_at w used_word
  pub used_durable : durable_at v used_word ≤ durable_at w used_word
  pub fits : UsedFits capacity v → UsedFits capacity w

-- each held block is named whichever of its two values each word has: its infos are durable, and it ends below both
-- values of `used`; and the kinds of the roots are durable as loads see them
pub record IsStable (capacity : ℕ) (v : View) (held : List Block) : Type 0 where
  pub capacity_is : volatile_at v capacity_word ≡ capacity
  pub capacity_durable : durable_at v capacity_word ≡ capacity
  pub kinds_durable : (root : ℕ) → root < roots → durable_at v (kind_word capacity root) ≡ volatile_at v (kind_word capacity root)
  pub low : ℕ
  pub fits : low ≤ capacity
  pub used : low ≤ volatile_at v used_word
  pub used_durable : low ≤ durable_at v used_word
  pub named : (b : Block) → Contains held b
      → IsBlock (record { capacity = capacity; used = low; info = λ d. volatile_at v (info_word d) }) b
  pub settled : (b : Block) (d : ℕ) → Contains held b → HasPartIn capacity b d → durable_at v (info_word d) ≡ volatile_at v (info_word d)

-- what lasts over a stop too: the held blocks are stable, and a stop is by a ticket that the budget does not allow
pub record IsLasting (capacity : ℕ) (v : View) (held : List Block) (stopped : Option ℕ) : Type 0 where
  pub some : 1 ≤ capacity
  pub small : capacity ≤ largest_capacity
  pub stable : IsStable capacity v held
  pub used : UsedFits capacity v
  pub stopping : (ticket : ℕ) → stopped ≡ Some ticket → (v.budget ≤ ticket) × (v.drawn ≡ ticket + 1)
