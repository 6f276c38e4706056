-- What contracts see of a heap for one thread.
use Rattle.std.specs.Prelude.{◌≡◌, ℕ, ◌+◌, ◌≤◌, List, Option, None, Some}
use Rattle.heap_model.specs.Geometry.{roots, state_word, kind_word}
use Rattle.heap_model.specs.Image.{Image, words_from}
use Rattle.heap_model.specs.Durability.{IsTransient}
use Rattle.line_memory.specs.View.{View as MemoryView, volatile_at, durable_at}
use Rattle.line_memory.specs.Crash.{IsValueOf}
use Rattle.heap_seat.specs.declared.fault.Looks.{Looks}
use Rattle.heap_seat.specs.View.{View}
use Rattle.block_heap.specs.Accounts.{AreAccounted}
use Rattle.block_heap.specs.Parts.{Parts, held_in, head_look}
use Rattle.block_heap.specs.Running.{IsRunning, CachesAreShort}
use Rattle.block_heap.specs.AllocatorWords.{IsLasting}

-- a heap for one thread: its parts, whether it stopped, and its counts of calls and refusals
pub record SeqState : Type 0 where
  pub parts : Parts
  pub stopped : Option ℕ
  pub small_calls : ℕ
  pub large_calls : ℕ
  pub refusals : ℕ
  pub refused_bytes : ℕ
  pub refused_looks : Looks
  -- its held blocks are named in every image that may be left
  pub lasts : ∥ IsLasting parts.capacity parts.words (held_in parts) stopped ∥₁

-- one thread owns every root
abbrev pub all_roots : List ℕ
all_roots = words_from (λ i. i) 0 roots

-- the kinds of the roots, as loads see them
unfoldable pub kinds_seen : ℕ → MemoryView → List ℕ
kinds_seen capacity words = words_from (volatile_at words) (kind_word capacity 0) roots

-- what the trait sees of it
abbrev pub seat_of : SeqState → View
seat_of s = record {
  held = held_in s.parts;
  roots = all_roots;
  volatile = λ word. Some (volatile_at s.parts.words word);
  durable = λ word. Some (durable_at s.parts.words word);
  pending = s.parts.words.pending;
  capacity = s.parts.capacity;
  kinds = kinds_seen s.parts.capacity s.parts.words;
  budget = s.parts.words.budget;
  next = s.parts.words.drawn;
  stopped = s.stopped;
  small_calls = s.small_calls;
  large_calls = s.large_calls;
  taken = s.parts.taken;
  refusals = s.refusals;
  refused_bytes = s.refused_bytes;
  refused_looks = s.refused_looks;
  used_look = s.parts.used_look;
  head_look = head_look s.parts.head_looks;
}

-- each word but transient ones and the state has its volatile or its durable value
pub record MayLeave (s : SeqState) (image : Image) : Type 0 where
  pub others : (word : ℕ) → (word ≡ state_word → ⊥) → (IsTransient s.parts.capacity word → ⊥) → IsValueOf s.parts.words word (image word)

-- a heap for one thread: its held blocks are stable, and until it stops its parts are right and no superblock is lost
pub record IsSeqHeap (s : SeqState) : Type 0 where
  pub lasts : IsLasting s.parts.capacity s.parts.words (held_in s.parts) s.stopped
  pub running : s.stopped ≡ None → IsRunning s.parts × CachesAreShort s.parts 0 × AreAccounted s.parts
  pub calls : s.small_calls + s.large_calls ≤ s.parts.words.drawn
  pub refused : s.refusals ≤ s.large_calls
