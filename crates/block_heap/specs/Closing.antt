-- What a heap for one thread is as it is opened, and what it leaves.
use Rattle.std.specs.Prelude.{◌≡◌, ℕ, ◌+◌, ◌*◌, ◌^◌, ◌≤◌, List, None}
use Rattle.line_memory.specs.View.{word_count, volatile_at, durable_at}
use Rattle.heap_model.specs.declared.block.Block.{Block}
use Rattle.block_heap.specs.Opening.{Opens}
use Rattle.block_heap.specs.SeqState.{SeqState}
use Rattle.heap_model.specs.Geometry.{IsFixed}

-- it was opened with these words, held blocks and budget
pub record IsOpened (words : List ℕ) (held : List Block) (budget : ℕ) (s : SeqState) : Type 0 where
  pub opens : Opens words held budget s.parts
  pub stopped : s.stopped ≡ None
  pub small : s.small_calls ≡ 0
  pub large : s.large_calls ≡ 0
  pub refusals : s.refusals ≡ 0

-- the most tickets that a large call draws
abbrev pub most_large_draws : ℕ
most_large_draws = 2 ^ 17

-- capacity and length stay, and so do the first four words of the header, those that have no meaning and the kinds of
-- the roots, as loads see them; where such a word was durable as loads see it, it still is
pub record KeepsFixed (s t : SeqState) : Type 0 where
  pub capacity : t.parts.capacity ≡ s.parts.capacity
  pub long : word_count t.parts.words ≡ word_count s.parts.words
  pub volatile : (word : ℕ) → IsFixed s.parts.capacity word → volatile_at t.parts.words word ≡ volatile_at s.parts.words word
  pub durable : (word : ℕ) → IsFixed s.parts.capacity word → durable_at s.parts.words word ≡ volatile_at s.parts.words word
      → durable_at t.parts.words word ≡ volatile_at t.parts.words word
  -- the last look at `used`, less what was taken by then, is the same; and each small call drew one ticket at most, each large one so many
  pub looks : s.parts.used_look.seen + t.parts.used_look.taken ≡ t.parts.used_look.seen + s.parts.used_look.taken
  pub draws : t.parts.words.drawn + (s.small_calls + most_large_draws * s.large_calls)
      ≤ s.parts.words.drawn + (t.small_calls + most_large_draws * t.large_calls)
