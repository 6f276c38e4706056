-- How a heap at rest is opened.
use Rattle.std.specs.Prelude.{◌≡◌, ℕ, ◌<◌, ◌↔◌, List, None, length, slice_index, Contains}
use Rattle.heap_model.specs.declared.block.Block.{Block}
use Rattle.heap_model.specs.Geometry.{lists, head_word, info_word, start_word}
use Rattle.heap_model.specs.Header.{capacity_of, used_of}
use Rattle.heap_model.specs.Sizes.{IsClass}
use Rattle.heap_seat.specs.declared.look.Look.{Look}
use Rattle.line_memory.specs.View.{opened}
use Rattle.block_heap.specs.declared.held.HeldBlocks.{HeldBlocks}
use Rattle.block_heap.specs.Accounts.{AreAccounted}
use Rattle.block_heap.specs.Begun.{IsBegun}
use Rattle.block_heap.specs.Held.{held_of}
use Rattle.block_heap.specs.Parts.{Parts, held_in, cache_at, head_look}
use Rattle.block_heap.specs.Running.{IsRunning}

-- the blocks held are those of the list, and each superblock's size is by its info
pub record IsHeldOf (words : List ℕ) (held : List Block) (h : HeldBlocks) : Type 0 where
  pub start : h.start ≡ start_word (capacity_of (slice_index words)) 0
  pub long : length h.words.items ≡ capacity_of (slice_index words)
  pub sizes : (d : ℕ) → d < capacity_of (slice_index words) → IsBegun (slice_index words (info_word d)) (slice_index h.words.items d)
  pub same : (b : Block) → Contains (held_of h) b ↔ Contains held b

-- a word that threads share, as it was seen when the heap was opened: by no ticket, and before a superblock was taken
abbrev pub opened_look : ℕ → Look
opened_look seen = record { seen = seen; ticket = None; taken = 0 }

-- the parts of a heap that was opened with these words, held blocks and budget
pub record Opens (words : List ℕ) (held : List Block) (budget : ℕ) (p : Parts) : Type 0 where
  pub running : IsRunning p
  pub accounted : AreAccounted p
  pub empty : (class : ℕ) → IsClass class → (cache_at p.caches class).count ≡ 0
  pub words_are : p.words ≡ opened words budget
  pub capacity : p.capacity ≡ capacity_of (slice_index words)
  pub same : (b : Block) → Contains (held_in p) b ↔ Contains held b
  pub taken : p.taken ≡ 0
  pub used_look : p.used_look ≡ opened_look (used_of (slice_index words))
  pub head_looks : (list : ℕ) → list < lists → head_look p.head_looks list ≡ opened_look (slice_index words (head_word list))
