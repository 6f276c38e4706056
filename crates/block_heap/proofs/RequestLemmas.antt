-- A request for memory on the whole heap: what it leaves, and which words it stores to.
use Rattle.std.proofs.Common.{◌≡◌, ℕ, ◌+◌, ◌-◌, ◌<◌, ◌⊎◌, inl, inr, Option, None, Some, Result, Ok, Err, OnOk, OnErr, IfOk, IfErr, List, Contains, refl, ap, sym, subst, ◌∙◌, arith}
use Rattle.std.specs.Prelude.{slice_index_or}
use Rattle.heap_model.specs.declared.block.Block.{Block}
use Rattle.heap_model.specs.Geometry.{roots, kind_word}
use Rattle.line_memory.specs.View.{volatile_at, durable_at}
use Rattle.line_memory.specs.declared.memory.Stopped.{Stopped}
use Rattle.block_heap.specs.Medium.{StoresOnly, RunsWithin, StopsWithin}
use Rattle.block_heap.specs.Accounts.{AreAccounted}
use Rattle.block_heap.specs.Parts.{Parts, held_in}
use Rattle.block_heap.specs.Running.{IsRunning, CachesAreShort, LeavesHeld}
use Rattle.block_heap.specs.Serving.{Answers}
use Rattle.block_heap.specs.AllocatorWords.{IsAllocatorWord, UsedFits, IsStable, IsLasting}
use Rattle.block_heap.specs.SeqState.{SeqState, IsSeqHeap, all_roots, kinds_seen, seat_of}
use Rattle.heap_seat.specs.Words.{IsOwn, IsDurable, MayRead, KeepsWord, KeepsPending}
use Rattle.block_heap.specs.Requests.{KeepsWords}
use Rattle.heap_seat.specs.View.{View}
use Rattle.block_heap.proofs.SeatLemmas.{stop_above, done_of, drew}
use Rattle.block_heap.proofs.StableLemmas.{not_own, stable_kept}
use Rattle.block_heap.proofs.RunningLemmas.{running_stable}
use Rattle.block_heap.specs.Draws.{most_small_draws}

-- what contracts see after a request or a free
abbrev pub large_view : SeqState → Parts → Option ℕ → View
large_view s q o = record (seat_of s) {
  held = held_in q;
  volatile = λ word. Some (volatile_at q.words word);
  durable = λ word. Some (durable_at q.words word);
  pending = q.words.pending;
  capacity = q.capacity;
  kinds = kinds_seen q.capacity q.words;
  budget = q.words.budget;
  next = q.words.drawn;
  stopped = o;
  large_calls = s.large_calls + 1;
  taken = q.taken;
  used_look = q.used_look;
  head_look = λ list. slice_index_or q.head_looks list (record { seen = 0; ticket = None; taken = 0 });
}

-- the parts that an answer leaves run
pub answer_runs : (answer : Option Block) (bytes : ℕ) (p q : Parts) → Answers bytes answer p q → IsRunning q × CachesAreShort q 0
    × (AreAccounted p → AreAccounted q)
answer_runs None bytes p q misses = (misses.running, misses.short, misses.accounted)
answer_runs (Some b) bytes p q gets = (gets.running, gets.short, gets.accounted)

-- held blocks are stable after a request
pub request_stable : (r : Result (Option Block) Stopped) (p q : Parts) (bytes : ℕ) → IsStable p.capacity p.words (held_in p)
    → LeavesHeld (held_in p) p q
    → IfOk r (λ answer. Answers bytes answer p q)
    → OnErr r (held_in q ≡ held_in p) → IsStable q.capacity q.words (held_in q)
request_stable (Ok answer) p q bytes stable leaves_held answers held =
    let kept = stable_kept p.capacity (held_in p) p.words q.words stable leaves_held.as_allocator in
    running_stable q (answer_runs answer bytes p q answers).0 (kept.capacity_is ∙ sym leaves_held.capacity) (kept.capacity_durable
    ∙ sym leaves_held.capacity)
    (subst (λ n. (root : ℕ) → root < roots → durable_at q.words (kind_word n root) ≡ volatile_at q.words (kind_word n root))
    (sym leaves_held.capacity) kept.kinds_durable)
request_stable (Err e) p q bytes stable leaves_held answers held =
    subst (λ n. IsStable n q.words (held_in q)) (sym leaves_held.capacity)
    (subst (λ blocks. IsStable p.capacity q.words blocks) (sym held)
    (stable_kept p.capacity (held_in p) p.words q.words stable leaves_held.as_allocator))

-- what lasts over a request or a free
pub large_lasts : {T : Type 0} (r : Result T Stopped) (p q : Parts) (held : List Block) (most : ℕ) (old o : Option ℕ)
    → IsLasting p.capacity p.words (held_in p) old → LeavesHeld held p q
    → IsStable q.capacity q.words (held_in q) → OnOk r (o ≡ None) → IfErr r (λ e. o ≡ Some e.step)
    → IfErr r (λ e. StopsWithin e.step most p.words q.words)
    → IsLasting q.capacity q.words (held_in q) o
large_lasts r p q held most old o lasts leaves_held stable none stops stops_within = record {
  some = let same = leaves_held.capacity in let some = lasts.some in omega arith;
  small = let same = leaves_held.capacity in let small = lasts.small in omega arith;
  stable = stable;
  used = subst (λ n. UsedFits n q.words) (sym leaves_held.capacity) (leaves_held.as_allocator.fits lasts.used);
  stopping = stop_above r o most p.words q.words none stops stops_within;
}

-- over a request
pub request_lasts : (r : Result (Option Block) Stopped) (p q : Parts) (bytes : ℕ) (old o : Option ℕ) → IsLasting p.capacity p.words (held_in p) old
    → LeavesHeld (held_in p) p q
    → IfOk r (λ answer. Answers bytes answer p q) → OnErr r (held_in q ≡ held_in p) → OnOk r (o ≡ None) → IfErr r (λ e. o ≡ Some e.step)
    → IfErr r (λ e. StopsWithin e.step most_small_draws p.words q.words)
    → IsLasting q.capacity q.words (held_in q) o
request_lasts r p q bytes old o lasts leaves_held answers held none stops stops_within =
    large_lasts r p q (held_in p) most_small_draws old o lasts leaves_held
    (request_stable r p q bytes lasts.stable leaves_held answers held) none stops stops_within

-- a request or a free keeps the heap
pub large_heap : {T : Type 0} (r : Result T Stopped) (s : SeqState) (q : Parts) (most : ℕ) (o : Option ℕ)
    (l : ∥ IsLasting q.capacity q.words (held_in q) o ∥₁)
    → IsSeqHeap s
    → IsLasting q.capacity q.words (held_in q) o → OnOk r (IsRunning q × CachesAreShort q 0 × AreAccounted q)
    → OnOk r (RunsWithin most s.parts.words q.words)
    → IfErr r (λ e. StopsWithin e.step most s.parts.words q.words) → IfErr r (λ e. o ≡ Some e.step)
    → IsSeqHeap (record {
      parts = q;
      stopped = o;
      small_calls = s.small_calls;
      large_calls = s.large_calls + 1;
      refusals = s.refusals;
      refused_bytes = s.refused_bytes;
      refused_looks = s.refused_looks;
      lasts = l;
    })
large_heap r s q most o l heap lasts runs runs_within stops_within stops = record {
  lasts = lasts;
  running = λ running. done_of r o (IsRunning q × CachesAreShort q 0 × AreAccounted q) runs stops running;
  calls = let few = heap.calls in let more = drew r most s.parts.words q.words runs_within stops_within in omega arith;
  refused = let few = heap.refused in omega arith;
}

-- a word that isn't stored to keeps its values
pub word_kept : (s : SeqState) (q : Parts) (o : Option ℕ) (to : ℕ → Type 0) (word : ℕ) → StoresOnly to s.parts.words q.words → (to word → ⊥)
    → KeepsWord (seat_of s) (large_view s q o) word
word_kept s q o to word stores out = record {
  volatile = λ read at. ap Some (stores.volatile word out) ∙ at;
  durable = λ read at. elim (stores.durable word out) as (λ _. MayRead (seat_of s) word read) [ inl old ↦ inr (at ∙ old) | inr old ↦ inl (at ∙ old) ];
}

-- and stays pending, or a fence made it durable
pub pending_kept : (s : SeqState) (q : Parts) (o : Option ℕ) (to : ℕ → Type 0) (word : ℕ) → StoresOnly to s.parts.words q.words → (to word → ⊥)
    → KeepsPending (seat_of s) (large_view s q o) word
pending_kept s q o to word stores out = λ p. elim (stores.pending word out p) as
    (λ _. Contains q.words.pending word ⊎ IsDurable (large_view s q o) word) [
      | inl still ↦ inl still
      | inr same ↦ inr (record { value = volatile_at q.words word; seen = refl; left = ap Some same })
    ]

-- a request keeps all own words
pub request_words : (s seen : SeqState) (q : Parts) (o : Option ℕ) → IsSeqHeap s → s ≡ seen → LeavesHeld (held_in s.parts) s.parts q
    → KeepsWords (seat_of seen) (large_view s q o)
request_words s seen q o heap same leaves_held = subst (λ t. KeepsWords (seat_of t) (large_view s q o)) same (record {
  roots = refl;
  words = λ word own. word_kept s q o (IsAllocatorWord s.parts.capacity (held_in s.parts)) word leaves_held.as_allocator.stores (out word own);
  pending = λ word own. pending_kept s q o (IsAllocatorWord s.parts.capacity (held_in s.parts)) word leaves_held.as_allocator.stores (out word own);
  refusals = record { count = refl; bytes = refl; looks = refl };
}) where
  out : (word : ℕ) → IsOwn (held_in s.parts) all_roots word → IsAllocatorWord s.parts.capacity (held_in s.parts) word → ⊥
  out word own may = not_own s.parts.capacity (held_in s.parts) s.parts.words word heap.lasts.small heap.lasts.stable may own

-- the parts of a request that was done
pub request_runs : (r : Result (Option Block) Stopped) (bytes : ℕ) (p q : Parts) → AreAccounted p → IfOk r (λ answer. Answers bytes answer p q)
    → OnOk r (IsRunning q × CachesAreShort q 0 × AreAccounted q)
request_runs (Ok answer) bytes p q before answers = let runs = answer_runs answer bytes p q answers in (runs.0, runs.1, runs.2 before)
request_runs (Err e) bytes p q before answers = tt
