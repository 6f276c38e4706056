-- What the small calls of a heap for one thread leave.
use Rattle.std.proofs.Common.{◌≡◌, ℕ, ◌+◌, ◌<◌, ◌≤◌, Option, None, Some, Result, Ok, Err, OnOk, IfOk, IfErr, get_or, get_or-set_same, Contains, refl, ap, sym, subst, ◌∙◌, arith}
use Rattle.heap_model.specs.Geometry.{used_word, image_words, largest_capacity_fits}
use Rattle.line_memory.specs.View.{View, word_count, volatile_at, durable_at, line_of}
use Rattle.line_memory.specs.declared.memory.Stopped.{Stopped}
use Rattle.block_heap.specs.Medium.{StoresOnly, RunsWithin, StopsWithin, IsLoaded, IsStored, IsWritten, IsFenced}
use Rattle.block_heap.specs.Parts.{Parts, held_in}
use Rattle.block_heap.specs.AllocatorWords.{IsLasting}
use Rattle.block_heap.specs.SeqState.{SeqState, IsSeqHeap, all_roots, kinds_seen, seat_of}
use Rattle.heap_seat.specs.Words.{IsOwn, in_block, in_root, IsOwnSpot}
use Rattle.heap_seat.specs.declared.spot.Spot.{Spot}
use Rattle.heap_seat.specs.declared.spot.Spot.TheVariants.{InBlock, Root}
use Rattle.heap_seat.specs.View.{View as SeatView, word_of}
use Rattle.heap_seat.specs.Calls.{Loads, Stores, WritesBack, Fences, IsWrittenWith}
use Rattle.heap_seat.specs.Tickets.{Runs}
use Rattle.heap_seat.proofs.CallerLemmas.{own_spot}
use Rattle.block_heap.proofs.StableLemmas.{stable_own, own_not_used, own_until, fits_kept}
use Rattle.block_heap.proofs.AccountLemmas.{accounted_same}
use Rattle.block_heap.proofs.RunningLemmas.{running_words}

-- the ticket of a stop is not allowed
pub stop_above : {T : Type 0} (r : Result T Stopped) (o : Option ℕ) (most : ℕ) (v w : View) → OnOk r (o ≡ None) → IfErr r (λ e. o ≡ Some e.step)
    → IfErr r (λ e. StopsWithin e.step most v w)
    → (ticket : ℕ) → o ≡ Some ticket → (w.budget ≤ ticket) × (w.drawn ≡ ticket + 1)
stop_above (Ok x) o most v w none stops stops_within ticket at = absurd (cc)
stop_above (Err e) o most v w none stops stops_within ticket at =
    let same : Some e.step ≡ Some ticket = sym stops ∙ at in
    let one : e.step ≡ ticket = cc in
    let above = stops_within.above in
    let last = stops_within.last in
    (omega arith, omega arith)

-- a call that ran drew a ticket
pub drew : {T : Type 0} (r : Result T Stopped) (most : ℕ) (v w : View) → OnOk r (RunsWithin most v w)
    → IfErr r (λ e. StopsWithin e.step most v w) → v.drawn < w.drawn
drew (Ok x) most v w runs_within stops_within = runs_within.drew
drew (Err e) most v w runs_within stops_within = let from = stops_within.from in let until = stops_within.until in omega arith

-- and few
pub few_drawn : {T : Type 0} (r : Result T Stopped) (most : ℕ) (v w : View) → OnOk r (RunsWithin most v w)
    → IfErr r (λ e. StopsWithin e.step most v w) → w.drawn ≤ v.drawn + most
few_drawn (Ok x) most v w runs_within stops_within = runs_within.few
few_drawn (Err e) most v w runs_within stops_within = stops_within.few

-- no stop, so it was done
pub done_of : {T : Type 0} (r : Result T Stopped) (o : Option ℕ) (P : Type 0) → OnOk r P → IfErr r (λ e. o ≡ Some e.step) → o ≡ None → P
done_of (Ok x) o P ok stops none = ok
done_of (Err e) o P ok stops none = absurd (cc)

-- what lasts over a small call
pub small_lasts : (p : Parts) (w : View) (to : ℕ → Type 0) (old o : Option ℕ) → IsLasting p.capacity p.words (held_in p) old
    → StoresOnly to p.words w → ((word : ℕ) → to word → IsOwn (held_in p) all_roots word)
    → ((ticket : ℕ) → o ≡ Some ticket → (w.budget ≤ ticket) × (w.drawn ≡ ticket + 1)) → IsLasting p.capacity w (held_in p) o
small_lasts p w to old o lasts stores own above = record {
  some = lasts.some;
  small = lasts.small;
  stable = stable_own p.capacity (held_in p) to p.words w lasts.small own lasts.stable stores;
  used = fits_kept p.capacity (held_in p) to p.words w (λ t. own_not_used p.capacity (held_in p) p.words lasts.stable (own used_word t))
      stores lasts.used;
  stopping = above;
}

-- a call that stores nothing keeps the heap
pub quiet_heap : {T : Type 0} (r : Result T Stopped) (s : SeqState) (w : View) (o : Option ℕ)
    (l : ∥ IsLasting s.parts.capacity w (held_in s.parts) o ∥₁) → IsSeqHeap s → s.stopped ≡ None
    → OnOk r (RunsWithin 1 s.parts.words w) → OnOk r (w.volatile ≡ s.parts.words.volatile) → IfErr r (λ e. StopsWithin e.step 1 s.parts.words w)
    → StoresOnly (λ _. ⊥) s.parts.words w
    → OnOk r (o ≡ None) → IfErr r (λ e. o ≡ Some e.step)
    → IsSeqHeap (record {
      parts = record s.parts { words = w };
      stopped = o;
      small_calls = s.small_calls + 1;
      large_calls = s.large_calls;
      refusals = s.refusals;
      refused_bytes = s.refused_bytes;
      refused_looks = s.refused_looks;
      lasts = l;
    })
quiet_heap r s w o l heap ran runs_within same stops_within stores none stops = record {
  lasts = small_lasts s.parts w (λ _. ⊥) s.stopped o heap.lasts stores (λ word t. absurd t) (stop_above r o 1 s.parts.words w none stops stops_within);
  running = λ running.
      let before = heap.running ran in
      let went = done_of r o (RunsWithin 1 s.parts.words w) runs_within stops running in (
        running_words s.parts w (λ _. ⊥) before.0 went.running (done_of r o (w.volatile ≡ s.parts.words.volatile) same stops running) stores
            (λ d below t. t) (λ t. t) went.below,
        record { each = before.1.each },
        accounted_same s.parts (record s.parts { words = w }) refl (done_of r o (w.volatile ≡ s.parts.words.volatile) same stops running) refl before.2,
      );
  calls = let few = heap.calls in let more = drew r 1 s.parts.words w runs_within stops_within in omega arith;
  refused = heap.refused;
}

-- an own word is one of the image
pub own_below : (s : SeqState) (word : ℕ) → IsLasting s.parts.capacity s.parts.words (held_in s.parts) s.stopped
    → IsOwn (held_in s.parts) all_roots word → word < image_words s.parts.capacity
own_below s word lasts own =
    let until = own_until s.parts.capacity (held_in s.parts) s.parts.words word lasts.stable own in
    omega arith

-- so a 64-bit number holds it
pub own_short : (s : SeqState) (spot : Spot) → IsSeqHeap s → IsOwnSpot (seat_of s) spot → word_of spot < 281474976710656
own_short s spot heap own =
    let below = own_below s (word_of spot) heap.lasts (own_spot (seat_of s) spot own) in
    let small = heap.lasts.small in
    omega (arith, largest_capacity_fits)

-- a heap that runs has that word
pub own_within : (s : SeqState) (spot : Spot) → IsSeqHeap s → s.stopped ≡ None → IsOwnSpot (seat_of s) spot → word_of spot < word_count s.parts.words
own_within s spot heap ran own =
    let below = own_below s (word_of spot) heap.lasts (own_spot (seat_of s) spot own) in
    let long : word_count s.parts.words ≡ image_words s.parts.capacity = (heap.running ran).0.words_open.long in
    omega arith

-- what contracts see after a small call
abbrev pub small_view : SeqState → View → Option ℕ → SeatView
small_view s w o = record (seat_of s) {
  volatile = λ word. Some (volatile_at w word);
  durable = λ word. Some (durable_at w word);
  pending = w.pending;
  kinds = kinds_seen s.parts.capacity w;
  budget = w.budget;
  next = w.drawn;
  stopped = o;
  small_calls = s.small_calls + 1;
}

-- a call that was done
runs_of : (s : SeqState) (w : View) (o : Option ℕ) → s.stopped ≡ None → o ≡ None → RunsWithin 1 s.parts.words w → Runs (seat_of s) (small_view s w o)
runs_of s w o ran runs runs_within = record { ran = ran; running = runs; drew = runs_within.drew; below = runs_within.below }

pub load_ok : (r : Result ℕ Stopped) (s seen : SeqState) (w : View) (o : Option ℕ) (word : ℕ) → IsSeqHeap s → s ≡ seen → seen.stopped ≡ None
    → OnOk r (o ≡ None)
    → IfOk r (λ value. IsLoaded word value s.parts.words w) → IfOk r (λ value. Loads word value (seat_of seen) (small_view s w o))
load_ok (Ok value) s seen w o word heap same ran runs loaded = subst (λ t. Loads word value (seat_of t) (small_view s w o)) same (record {
  runs = runs_of s w o (ap (λ (t : SeqState). t.stopped) same ∙ ran) runs loaded.runs_within;
  seen = ap Some (ap (λ xs. get_or xs word 0) loaded.volatile ∙ sym loaded.seen);
  pending = λ other p. subst (λ xs. Contains xs other) (sym loaded.pending) p;
})
load_ok (Err e) s seen w o word heap same ran runs loaded = tt

pub store_ok : (r : Result Unit Stopped) (s seen : SeqState) (w : View) (o : Option ℕ) (word value : ℕ) → IsSeqHeap s → s ≡ seen
    → word < word_count s.parts.words → seen.stopped ≡ None → OnOk r (o ≡ None)
    → OnOk r (IsStored word value s.parts.words w) → OnOk r (Stores word value (seat_of seen) (small_view s w o))
store_ok (Ok t) s seen w o word value heap same within ran runs stored = subst (λ t. Stores word value (seat_of t) (small_view s w o)) same (record {
  runs = runs_of s w o (ap (λ (t : SeqState). t.stopped) same ∙ ran) runs stored.runs_within;
  seen = ap Some (ap (λ xs. get_or xs word 0) stored.volatile ∙ get_or-set_same s.parts.words.volatile word value 0 within);
  pending = stored.pending;
})
store_ok (Err e) s seen w o word value heap same within ran runs stored = tt

pub write_back_ok : (r : Result Unit Stopped) (s seen : SeqState) (w : View) (o : Option ℕ) (spot : Spot) → IsSeqHeap s → s ≡ seen
    → seen.stopped ≡ None → IsOwnSpot (seat_of seen) spot
    → OnOk r (o ≡ None) → OnOk r (IsWritten (word_of spot) s.parts.words w) → OnOk r (WritesBack spot (seat_of seen) (small_view s w o))
write_back_ok (Ok t) s seen w o spot heap same ran own runs written = subst (λ t. WritesBack spot (seat_of t) (small_view s w o)) same (record {
  runs = runs_of s w o ran_before runs written.runs_within;
  line = λ word p. in_line word (spot_words spot own_before word p);
  pending = written.pending;
}) where
  ran_before : s.stopped ≡ None
  ran_before = ap (λ (t : SeqState). t.stopped) same ∙ ran

  own_before : IsOwnSpot (seat_of s) spot
  own_before = subst (λ t. IsOwnSpot (seat_of t) spot) (sym same) own

  spot_words : (at : Spot) → IsOwnSpot (seat_of s) at → (word : ℕ) → IsWrittenWith at word → IsOwn (held_in s.parts) all_roots word
      × (line_of word ≡ line_of (word_of at))
  spot_words (InBlock b index) own word p = (in_block b word own.0 p.0, p.1)
  spot_words (Root i) own word p = (in_root i word own p, ap line_of p)

  in_line : (word : ℕ) → IsOwn (held_in s.parts) all_roots word × (line_of word ≡ line_of (word_of spot)) → Contains w.pending word
  in_line word p =
      let below = own_below s word heap.lasts p.0 in
      let long : word_count s.parts.words ≡ image_words s.parts.capacity = (heap.running ran_before).0.words_open.long in
      written.line word (omega arith) p.1
write_back_ok (Err e) s seen w o spot heap same ran own runs written = tt

pub fence_ok : (r : Result Unit Stopped) (s seen : SeqState) (w : View) (o : Option ℕ) → s ≡ seen → seen.stopped ≡ None → OnOk r (o ≡ None)
    → OnOk r (IsFenced s.parts.words w) → OnOk r (Fences (seat_of seen) (small_view s w o))
fence_ok (Ok t) s seen w o same ran runs fenced = subst (λ t. Fences (seat_of t) (small_view s w o)) same (record {
  runs = runs_of s w o (ap (λ (t : SeqState). t.stopped) same ∙ ran) runs fenced.runs_within;
  durable = λ word own pending. record { value = volatile_at w word; seen = refl; left = ap Some (fenced.durable word pending) };
})
fence_ok (Err e) s seen w o same ran runs fenced = tt

-- of a load that was done
pub loaded_runs_within : (r : Result ℕ Stopped) (word : ℕ) (v w : View) → IfOk r (λ value. IsLoaded word value v w) → OnOk r (RunsWithin 1 v w)
loaded_runs_within (Ok value) word v w loaded = loaded.runs_within
loaded_runs_within (Err e) word v w loaded = tt

pub loaded_same : (r : Result ℕ Stopped) (word : ℕ) (v w : View) → IfOk r (λ value. IsLoaded word value v w) → OnOk r (w.volatile ≡ v.volatile)
loaded_same (Ok value) word v w loaded = loaded.volatile
loaded_same (Err e) word v w loaded = tt

-- the own word of a spot, by its number
pub own_at : (s seen : SeqState) (spot : Spot) (word : ℕ) → IsSeqHeap s → s ≡ seen → word ≡ word_of spot → IsOwnSpot (seat_of seen) spot
    → IsOwn (held_in s.parts) all_roots word
own_at s seen spot word heap same at own =
    subst (IsOwn (held_in s.parts) all_roots) (sym at) (own_spot (seat_of s) spot (subst (λ t. IsOwnSpot (seat_of t) spot) (sym same) own))

-- and it is one of the image
pub at_within : (s seen : SeqState) (spot : Spot) (word : ℕ) → IsSeqHeap s → s ≡ seen → word ≡ word_of spot → seen.stopped ≡ None
    → IsOwnSpot (seat_of seen) spot → word < word_count s.parts.words
at_within s seen spot word heap same at ran own =
    subst (λ n. n < word_count s.parts.words) (sym at)
    (own_within s spot heap (ap (λ (t : SeqState). t.stopped) same ∙ ran) (subst (λ t. IsOwnSpot (seat_of t) spot) (sym same) own))
