-- The words that every call of a heap for one thread leaves as they are.
use Rattle.std.proofs.Common.{◌≡◌, ℕ, ◌+◌, ◌*◌, ◌<◌, ◌≤◌, inl, inr, List, length, ap, sym, subst, ◌∙◌, get_or, arith}
use Rattle.std.specs.Prelude.{slice_index}
use Rattle.heap_model.specs.declared.block.Block.{Block}
use Rattle.heap_model.specs.Durability.{IsTransient, is_head, is_anchor, is_link}
use Rattle.heap_model.specs.Header.{capacity_of, used_of, kinds_of}
use Rattle.heap_model.specs.Image.{Image}
use Rattle.heap_model.proofs.ImageLemmas.{words_from-agree, get_or-words_from}
use Rattle.heap_shape.specs.Moves.{TakesFrom}
use Rattle.line_memory.specs.View.{View, word_count, volatile_at, durable_at}
use Rattle.block_heap.specs.Closing.{IsOpened, KeepsFixed, most_large_draws}
use Rattle.block_heap.specs.Medium.{StoresOnly}
use Rattle.block_heap.specs.Parts.{held_in, image_of}
use Rattle.block_heap.specs.Running.{LeavesHeld}
use Rattle.block_heap.specs.SeqState.{SeqState, IsSeqHeap, all_roots, kinds_seen, seat_of, MayLeave}
use Rattle.heap_seat.specs.Words.{IsOwn}
use Rattle.heap_model.specs.Geometry.{roots, kind_word, IsFixed}
use Rattle.heap_seat.specs.View.{kind_of}
use Rattle.block_heap.specs.AllocatorWords.{IsAllocatorWord}
use Rattle.heap_seat.specs.Rows.{IsRow}
use Rattle.heap_model.specs.Geometry.{used_word}
use Rattle.block_heap.proofs.StableLemmas.{not_fixed, own_not_fixed, stable_fewer}
use Rattle.heap_seat.specs.declared.look.Look.{Look}

-- the fixed words are those of the image that was opened
pub fixed_opened : (words : List ℕ) (held : List Block) (budget : ℕ) (s t : SeqState) → IsOpened words held budget s → KeepsFixed s t
    → (word : ℕ) → IsFixed (capacity_of (slice_index words)) word
    → (volatile_at t.parts.words word ≡ slice_index words word) × (durable_at t.parts.words word ≡ slice_index words word)
fixed_opened words held budget s t opened keeps word is = (seen, keeps.durable word fixed (left ∙ sym was) ∙ seen) where
  fixed : IsFixed s.parts.capacity word
  fixed = subst (λ n. IsFixed n word) (sym opened.opens.capacity) is

  was : volatile_at s.parts.words word ≡ slice_index words word
  was = ap (λ (v : View). get_or v.volatile word 0) opened.opens.words_are

  left : durable_at s.parts.words word ≡ slice_index words word
  left = ap (λ (v : View). get_or v.durable word 0) opened.opens.words_are

  seen : volatile_at t.parts.words word ≡ slice_index words word
  seen = keeps.volatile word fixed ∙ was

-- and there are as many words as in the image
pub long_opened : (words : List ℕ) (held : List Block) (budget : ℕ) (s t : SeqState) → IsOpened words held budget s → KeepsFixed s t
    → word_count t.parts.words ≡ length words
long_opened words held budget s t opened keeps = keeps.long ∙ ap word_count opened.opens.words_are

-- so are the kinds of the roots, which stand in such words
kind_fixed : (capacity i : ℕ) → i < roots → IsFixed capacity (kind_word capacity i)
kind_fixed capacity i below = inr (inr (record { from = omega arith; until = omega arith }))

pub kinds_stay : (s t : SeqState) → KeepsFixed s t → (seat_of t).kinds ≡ (seat_of s).kinds
unfolding kinds_seen
kinds_stay s t keeps =
    ap (λ n. kinds_seen n t.parts.words) keeps.capacity
    ∙ words_from-agree (image_of t.parts) (image_of s.parts) (kind_word s.parts.capacity 0) roots
    (λ at low high. keeps.volatile at (inr (inr (record { from = low; until = omega arith }))))

pub kinds_opened : (words : List ℕ) (held : List Block) (budget : ℕ) (s t : SeqState) → IsOpened words held budget s → KeepsFixed s t
    → (i : ℕ) → i < roots → kind_of (seat_of t) i ≡ kinds_of (slice_index words) i
unfolding kinds_seen
kinds_opened words held budget s t opened keeps i below =
    get_or-words_from (image_of t.parts) (kind_word t.parts.capacity 0) roots i 0 below
    ∙ ap (image_of t.parts) (let same = keeps.capacity in let was = opened.opens.capacity in omega arith)
    ∙ (fixed_opened words held budget s t opened keeps (kind_word (capacity_of (slice_index words)) i)
    (kind_fixed (capacity_of (slice_index words)) i below)).0

-- and in every image that may be left
pub kinds_left : (words : List ℕ) (held : List Block) (budget : ℕ) (s t : SeqState) → IsOpened words held budget s → KeepsFixed s t
    → (image : Image) → MayLeave t image → (i : ℕ) → i < roots → image (kind_word (capacity_of (slice_index words)) i) ≡ kinds_of (slice_index words) i
kinds_left words held budget s t opened keeps image left i below =
    let word = kind_word (capacity_of (slice_index words)) i in
    let fixed = fixed_opened words held budget s t opened keeps word (kind_fixed (capacity_of (slice_index words)) i below) in
    elim (left.others word (λ e. omega arith) (kept (keeps.capacity ∙ opened.opens.capacity))) as (λ _. image word ≡ slice_index words word) [
      | inl durable ↦ durable ∙ fixed.1
      | inr volatile ↦ volatile ∙ fixed.0
    ] where
      kept : t.parts.capacity ≡ capacity_of (slice_index words) → IsTransient t.parts.capacity (kind_word (capacity_of (slice_index words)) i) → ⊥
      kept same (is_head list word few at) = omega arith
      kept same (is_anchor d word less at) = omega arith
      kept same (is_link d word less at) = omega arith

-- a call keeps them that stores to none of them
pub fixed_by : (to : ℕ → Type 0) (s seen t : SeqState) → s ≡ seen → t.parts.capacity ≡ s.parts.capacity
    → StoresOnly to s.parts.words t.parts.words → ((word : ℕ) → to word → IsFixed s.parts.capacity word → ⊥)
    → s.parts.used_look.seen + t.parts.used_look.taken ≡ t.parts.used_look.seen + s.parts.used_look.taken
    → t.parts.words.drawn + (s.small_calls + most_large_draws * s.large_calls) ≤ s.parts.words.drawn +
    (t.small_calls + most_large_draws * t.large_calls) → KeepsFixed seen t
fixed_by to s seen t same capacity stores none looks draws = subst (λ m. KeepsFixed m t) same (record {
  capacity = capacity;
  long = stores.words;
  volatile = λ word is. stores.volatile word (λ may. none word may is);
  durable = λ word is settled.
      let now = stores.volatile word (λ may. none word may is) in
      elim (stores.durable word (λ may. none word may is)) as (λ _. durable_at t.parts.words word ≡ volatile_at t.parts.words word) [
        | inl old ↦ old ∙ settled ∙ sym now
        | inr old ↦ old ∙ sym now
      ];
  looks = looks;
  draws = draws;
})

-- a store to an own word
pub fixed_store : (s seen t : SeqState) (word : ℕ) → IsSeqHeap s → s ≡ seen → t.parts.capacity ≡ s.parts.capacity
    → IsOwn (held_in s.parts) all_roots word → StoresOnly (λ other. other ≡ word) s.parts.words t.parts.words
    → s.parts.used_look.seen + t.parts.used_look.taken ≡ t.parts.used_look.seen + s.parts.used_look.taken
    → t.parts.words.drawn + (s.small_calls + most_large_draws * s.large_calls) ≤ s.parts.words.drawn +
    (t.small_calls + most_large_draws * t.large_calls) → KeepsFixed seen t
fixed_store s seen t word heap same capacity own stores looks draws = fixed_by (λ other. other ≡ word) s seen t same capacity stores (λ other at is.
    own_not_fixed s.parts.capacity (held_in s.parts) s.parts.words other heap.lasts.stable
    (subst (IsOwn (held_in s.parts) all_roots) (sym at) own) is) looks draws

-- a request, and a free
pub fixed_request : (s seen t : SeqState) → IsSeqHeap s → s ≡ seen → LeavesHeld (held_in s.parts) s.parts t.parts
    → t.parts.words.drawn + (s.small_calls + most_large_draws * s.large_calls) ≤ s.parts.words.drawn +
    (t.small_calls + most_large_draws * t.large_calls) → KeepsFixed seen t
fixed_request s seen t heap same leaves_held draws =
    fixed_by (IsAllocatorWord s.parts.capacity (held_in s.parts)) s seen t same leaves_held.capacity leaves_held.as_allocator.stores (λ word may is.
    not_fixed s.parts.capacity (held_in s.parts) s.parts.words word heap.lasts.stable may is) leaves_held.knows draws

pub fixed_free : (s seen t : SeqState) (b : Block) → IsSeqHeap s → s ≡ seen → TakesFrom b (held_in s.parts) (held_in t.parts)
    → LeavesHeld (held_in t.parts) s.parts t.parts
    → t.parts.words.drawn + (s.small_calls + most_large_draws * s.large_calls) ≤ s.parts.words.drawn +
    (t.small_calls + most_large_draws * t.large_calls) → KeepsFixed seen t
fixed_free s seen t b heap same takes leaves_held draws =
    let stable = stable_fewer s.parts.capacity (held_in s.parts) (held_in t.parts) s.parts.words takes.only heap.lasts.stable in
    fixed_by (IsAllocatorWord s.parts.capacity (held_in t.parts)) s seen t same leaves_held.capacity leaves_held.as_allocator.stores (λ word may is.
    not_fixed s.parts.capacity (held_in t.parts) s.parts.words word stable may is) leaves_held.knows draws

-- the last look tells what was taken as the heap was opened
pub looks_opened : (words : List ℕ) (held : List Block) (budget : ℕ) (s t : SeqState) → IsOpened words held budget s → KeepsFixed s t
    → t.parts.used_look.seen ≡ used_of (slice_index words) + t.parts.used_look.taken
looks_opened words held budget s t opened keeps =
    let looks = keeps.looks in
    let seen : s.parts.used_look.seen ≡ used_of (slice_index words) = ap (λ (look : Look). look.seen) opened.opens.used_look in
    let none = opened.opens.taken in
    let knows = opened.opens.running.knows in
    let used : image_of s.parts used_word ≡ used_of (slice_index words) = ap (λ (v : View). volatile_at v used_word) opened.opens.words_are in
    omega arith

-- a row of calls draws few tickets
pub row_draws : (small large most : ℕ) (s t : SeqState) → KeepsFixed s t → IsRow small large most (seat_of s) (seat_of t)
    → t.parts.words.drawn ≤ s.parts.words.drawn + (small + most_large_draws * large)
row_draws small large most s t keeps row = let draws = keeps.draws in let few = row.small_few in let some = row.large_few in omega arith
