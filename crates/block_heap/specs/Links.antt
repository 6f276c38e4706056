-- Links to descriptors, and what pops and pushes do.
use Rattle.std.specs.Prelude.{◌≡◌, ℕ, ◌+◌, ◌<◌, ◌≤◌, ◌⊎◌, ◌^◌, None, MatchOption, slice_set}
use Rattle.heap_model.specs.Geometry.{head_word, link_word, used_word, image_words}
use Rattle.heap_model.specs.Words.{head_of, head_first, head_pops}
use Rattle.super_block.specs.Links.{link_of}
use Rattle.line_memory.specs.View.{View, word_count, volatile_at, durable_at}
use Rattle.block_heap.specs.declared.lists.Popped.{Popped}
use Rattle.block_heap.specs.declared.superblocks.Fresh.{Fresh}
use Rattle.block_heap.specs.Medium.{RunsWithin, StoresOnly}

-- a running memory with the words of a heap of so many superblocks
pub record IsOpen (capacity : ℕ) (v : View) : Type 0 where
  pub running : v.stopped ≡ None
  pub long : word_count v ≡ image_words capacity

-- the head leads to a descriptor or to none, and its count has room
pub record IsHead (capacity head : ℕ) : Type 0 where
  pub first : head_first head ≤ capacity
  pub pops : head_pops head + 1 < 2 ^ 40

-- the first descriptor was taken off the list, if it had one
pub record IsPopped (list : ℕ) (popped : Popped) (v w : View) : Type 0 where
  pub runs_within : RunsWithin 3 v w
  pub head : popped.head ≡ volatile_at v (head_word list)
  pub first : link_of popped.first ≡ head_first popped.head
  pub words : MatchOption popped.first (w.volatile ≡ v.volatile)
      (λ d. w.volatile ≡ slice_set v.volatile (head_word list)
      (head_of (head_first (volatile_at v (link_word d))) (head_pops popped.head + 1)))

-- the descriptor was put in front of the list
pub record IsPushed (list d : ℕ) (v w : View) : Type 0 where
  pub runs_within : RunsWithin 3 v w
  pub words : w.volatile ≡ slice_set (slice_set v.volatile (link_word d) (head_first (volatile_at v (head_word list))))
      (head_word list) (head_of (d + 1) (head_pops (volatile_at v (head_word list))))

-- a word that a push changes
abbrev pub IsPushWord : ℕ → ℕ → ℕ → Type 0
IsPushWord list d word = (word ≡ head_word list) ⊎ (word ≡ link_word d)

-- so many superblocks were taken for the first time, or there were too few
pub record IsFresh (capacity count : ℕ) (fresh : Fresh) (v w : View) : Type 0 where
  pub runs_within : RunsWithin 4 v w
  pub used : fresh.used ≡ volatile_at v used_word
  pub words : MatchOption fresh.first ((w.volatile ≡ v.volatile) × (capacity < fresh.used + count) × StoresOnly (λ _. ⊥) v w)
      (λ d. (d ≡ fresh.used) × (fresh.used + count ≤ capacity)
      × (w.volatile ≡ slice_set v.volatile used_word (fresh.used + count)) × (durable_at w used_word ≡ fresh.used + count))
