-- What contracts see of a heap's seat that is a seat of the core.
use Rattle.std.specs.Prelude.{◌≡◌, ◌≤◌, ℕ, ◌+◌, ◌*◌, None, Bool, List, [], ◌∷◌, ◌++◌, get_or, slice_index}
use Rattle.heap_model.specs.declared.block.Block.{Block}
use Rattle.heap_model.specs.Geometry.{roots, start_word, superblock_words, kind_word}
use Rattle.heap_model.specs.Image.{words_from}
use Rattle.heap_model.specs.Sizes.{words_of_class}
use Rattle.heap_seat.specs.declared.fault.Looks.{Looks}
use Rattle.heap_seat.specs.declared.look.Look.{Look}
use Rattle.line_memory.specs.Marks.{marked_words}
use Rattle.heap_seat.specs.View.{View as HeapView}
use Rattle.atomic_table.specs.Seated.{TableId}
use Rattle.core_model.specs.View.{LastLook, Setup, Span, View}
use Rattle.heap_table.specs.Plays.{HasSoundState}
use Rattle.heap_rule.specs.Seated.{SeatView}
use Rattle.seat_costs.specs.Idle.{HasShortCaches, IsIdle}
use Rattle.seat_costs.specs.Rows.{next_of}
use Rattle.seat_costs.specs.Words.{left_at, seen_at}

-- between its calls a seat that goes on is idle, and its caches are short
abbrev pub IsBetweenCalls : View → Type 0
IsBetweenCalls v = v.stopped ≡ None → IsIdle v × HasShortCaches v

-- each call that was counted drew a ticket of its own, and each refusal is a call of alloc
abbrev pub HasCounts : ℕ → ℕ → ℕ → View → Type 0
HasCounts small large refusals v = (small + large ≤ next_of v) × (refusals ≤ large)

-- a thread's cache: its seat of the table, pending write-backs, last stores and counts
pub record CacheState : Type 0 where
  pub table : TableId
  pub view : View
  pub marks : List Bool
  pub stores : List ℕ
  pub small_calls : ℕ
  pub large_calls : ℕ
  pub refusals : ℕ
  pub refused_bytes : ℕ
  pub refused_looks : Looks
  -- some sound state has the view
  pub sound : ∥ HasSoundState view ∥₁
  pub between : IsBetweenCalls view
  pub counted : HasCounts small_calls large_calls refusals view

-- the same with the chance that it asks
pub record CacheValue (C : Type 0) : Type 0 where
  pub state : CacheState
  pub chance : C

-- the blocks of so many words that begin at the words
abbrev pub blocks_of_words : ℕ → List ℕ → List Block
blocks_of_words words [] = []
blocks_of_words words (b ∷ bs) = record { first_word = b; words = words } ∷ blocks_of_words words bs

-- the blocks of all classes from one on
abbrev pub small_blocks : ℕ → List (List ℕ) → List Block
small_blocks class [] = []
small_blocks class (bs ∷ lists) = blocks_of_words (words_of_class class) bs ++ small_blocks (class + 1) lists

-- the large blocks, by the superblocks that they take
abbrev pub large_blocks : ℕ → List Span → List Block
large_blocks capacity [] = []
large_blocks capacity (span ∷ spans) = record {
  first_word = start_word capacity span.first;
  words = superblock_words * span.count;
} ∷ large_blocks capacity spans

-- all blocks that the view holds
abbrev pub held_blocks : View → List Block
held_blocks v = small_blocks 0 v.small ++ large_blocks v.setup.capacity v.large

-- the kinds of the roots, as the heap was opened
abbrev pub opened_kinds : Setup → List ℕ
opened_kinds k = words_from (slice_index k.opened) (kind_word k.capacity 0) roots

-- a look, as callers see it
abbrev pub look_of : LastLook → Look
look_of look = record { seen = look.word; ticket = look.ticket; taken = look.taken }

-- what is counted of a seat's calls: small ones, large ones, and refusals with the last of them
pub record CallCounts : Type 0 where
  pub small_calls : ℕ
  pub large_calls : ℕ
  pub refusals : ℕ
  pub refused_bytes : ℕ
  pub refused_looks : Looks

-- what callers see of a seat with this view, these pending words and these counts
abbrev pub heap_view_of : View → List Bool → CallCounts → HeapView
heap_view_of v marks counts = record {
  held = held_blocks v;
  roots = v.roots;
  volatile = seen_at v;
  durable = left_at v;
  pending = marked_words marks;
  capacity = v.setup.capacity;
  kinds = opened_kinds v.setup;
  budget = v.setup.budget;
  next = next_of v;
  stopped = v.stopped;
  small_calls = counts.small_calls;
  large_calls = counts.large_calls;
  taken = v.taken;
  refusals = counts.refusals;
  refused_bytes = counts.refused_bytes;
  refused_looks = counts.refused_looks;
  used_look = look_of v.used_look;
  head_look = λ list. look_of (get_or v.head_looks list v.used_look);
}

-- those of a cache
abbrev pub counts_of : CacheState → CallCounts
counts_of s = record {
  small_calls = s.small_calls;
  large_calls = s.large_calls;
  refusals = s.refusals;
  refused_bytes = s.refused_bytes;
  refused_looks = s.refused_looks;
}

-- what callers see of a cache
abbrev pub heap_view : CacheState → HeapView
heap_view s = heap_view_of s.view s.marks (counts_of s)

-- of a seat that has refused no request
abbrev pub no_looks : Looks
no_looks = record { class_head = 0; free_head = 0; used = 0 }

-- a seat of the core with its view and its marks
pub record IsStateOf (s : CacheState) (seat : SeatView) : Type 0 where
  pub view : seat.view ≡ s.view
  pub marks : seat.marks ≡ s.marks
