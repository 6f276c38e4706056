-- What a store to an own word of a heap for one thread leaves.
use Rattle.std.proofs.Common.{◌≡◌, ℕ, ◌+◌, ◌*◌, ◌<◌, ◌≤◌, ◌^◌, ◌⊎◌, inl, inr, Option, None, Some, Result, Ok, Err, OnOk, OnErr, IfErr, get_or, refl, ap, sym, subst, ◌∙◌, arith}
use Rattle.heap_model.specs.Geometry.{lists, head_word, info_word, used_word, root_word, start_word}
use Rattle.heap_model.specs.Words.{head_pops}
use Rattle.heap_model.specs.Image.{Image}
use Rattle.heap_model.specs.Sizes.{IsClass, words_of_class}
use Rattle.heap_shape.specs.Effects.{IsSet}
use Rattle.heap_shape.specs.Whole.{IsShape}
use Rattle.heap_shape.specs.Shape.{Shape}
use Rattle.heap_shape.proofs.OwnLemmas.{store_inside, store_root}
use Rattle.heap_shape.proofs.AccountLemmas.{accounted_kept}
use Rattle.line_memory.specs.View.{View, word_count, volatile_at, durable_at}
use Rattle.line_memory.specs.Crash.{MayLeaveStore as MayStoreWord}
use Rattle.line_memory.specs.declared.memory.Stopped.{Stopped}
use Rattle.block_heap.specs.declared.held.HeldBlocks.{HeldBlocks}
use Rattle.block_heap.specs.Medium.{StoresOnly, RunsWithin, StopsWithin, IsStored}
use Rattle.block_heap.specs.Accounts.{AreAccounted}
use Rattle.block_heap.specs.Parts.{Parts, held_in}
use Rattle.block_heap.specs.Running.{IsRunning, KnowsSizes}
use Rattle.block_heap.specs.AllocatorWords.{IsLasting}
use Rattle.block_heap.specs.Stable.{root_below, own_where}
use Rattle.block_heap.specs.SeqState.{SeqState, IsSeqHeap, all_roots, seat_of}
use Rattle.heap_seat.specs.Words.{IsOwn, in_block, in_root, KeepsOwn, MayHaveStored, MayRead}
use Rattle.block_heap.proofs.RunningLemmas.{set_is, settled_kept}
use Rattle.block_heap.proofs.SeatLemmas.{stop_above, done_of, drew, small_lasts, small_view}

-- the shape stays
own_shape : (capacity word value : ℕ) (image new : Image) (s : Parts) (shape : Shape) → IsShape capacity image (held_in s) shape
    → IsOwn (held_in s) all_roots word → IsSet image new word value → IsShape capacity new (held_in s) shape
own_shape capacity _ value image new s shape is (in_block b word holds in_b) set =
    store_inside capacity word value image new (held_in s) shape b is holds in_b set
own_shape capacity _ value image new s shape is (in_root i word p same) set =
    store_root capacity i value image new (held_in s) shape is (root_below i p) (subst (λ x. IsSet image new x value) same set)

-- sizes that are known stay so where the infos stay
knows_same : (capacity : ℕ) (s : Shape) (old new : ℕ → ℕ) (blocks : HeldBlocks) → ((d : ℕ) → d < capacity → new d ≡ old d)
    → KnowsSizes capacity s old blocks → KnowsSizes capacity s new blocks
knows_same capacity s old new blocks same knows = record {
  start = knows.start;
  long = knows.long;
  sizes = λ d below is place.
      let e = same d below in
      knows.sizes d below (subst IsClass e is) (subst (λ x. (s.place d ≡ Rattle.heap_shape.specs.Shape.in_list x) ⊎
      (s.place d ≡ Rattle.heap_shape.specs.Shape.is_full)) e place) ∙ ap words_of_class (sym e);
}

-- the parts stay right
pub own_stored : (p : Parts) (w : View) (o : Option ℕ) (word value : ℕ) → IsRunning p → IsLasting p.capacity p.words (held_in p) o
    → IsOwn (held_in p) all_roots word → word < word_count p.words
    → IsStored word value p.words w → StoresOnly (λ other. other ≡ word) p.words w → IsRunning (record p { words = w })
own_stored p w o word value run lasts own within stored stores = record {
  words_open = record { running = stored.runs_within.running; long = stores.words ∙ run.words_open.long };
  below = stored.runs_within.below;
  bounded = subst (λ n. n < 2 ^ 40) (sym stores.budget) run.bounded;
  caches_long = run.caches_long;
  looks_long = run.looks_long;
  shape = run.shape;
  is = own_shape p.capacity word value (λ at. get_or p.words.volatile at 0) (λ at. get_or w.volatile at 0) p run.shape run.is own
      (set_is p.words.volatile w.volatile word value within stored.volatile);
  caches = run.caches;
  sizes = knows_same p.capacity run.shape (λ d. get_or p.words.volatile (info_word d) 0) (λ d. get_or w.volatile (info_word d) 0) p.blocks
      (λ d below. stores.volatile (info_word d) (not_info d below)) run.sizes;
  settled = settled_kept p.capacity (λ other. other ≡ word) p.words w stores not_info not_used run.settled;
  pops = λ list less.
      let before = run.pops list less in
      let more = stores.drawn in
      subst (λ x. 2 * head_pops x ≤ w.drawn) (sym (stores.volatile (head_word list) (not_head list less))) (omega arith);
  knows = subst (λ x. x + p.used_look.taken ≡ p.used_look.seen + p.taken) (sym (stores.volatile used_word not_used)) run.knows;
  few = subst (λ x. p.taken ≤ x) (sym (stores.volatile used_word not_used)) run.few;
} where
  at : ((root_word 0 ≤ word) × (word < info_word 0)) ⊎ (start_word p.capacity 0 ≤ word)
  at = own_where p.capacity (held_in p) p.words word lasts.stable own

  not_info : (d : ℕ) → d < p.capacity → info_word d ≡ word → ⊥
  not_info d below e = elim at as (λ _. ⊥) [ inl root ↦ omega (arith, root.1) | inr inside ↦ omega arith ]

  not_used : used_word ≡ word → ⊥
  not_used e = elim at as (λ _. ⊥) [ inl root ↦ omega (arith, root.0) | inr inside ↦ omega arith ]

  not_head : (list : ℕ) → list < lists → head_word list ≡ word → ⊥
  not_head list less e = elim at as (λ _. ⊥) [ inl root ↦ omega (arith, root.0) | inr inside ↦ omega arith ]

-- and no superblock is lost
pub own_accounted : (p : Parts) (w : View) (o : Option ℕ) (word value : ℕ) → IsRunning p → IsLasting p.capacity p.words (held_in p) o
    → IsOwn (held_in p) all_roots word → word < word_count p.words
    → IsStored word value p.words w → StoresOnly (λ other. other ≡ word) p.words w → AreAccounted p → AreAccounted (record p { words = w })
own_accounted p w o word value run lasts own within stored stores =
    accounted_kept p.capacity (λ at. get_or p.words.volatile at 0) (λ at. get_or w.volatile at 0) (held_in p) run.shape run.shape (held_in p) run.is
    (own_shape p.capacity word value (λ at. get_or p.words.volatile at 0) (λ at. get_or w.volatile at 0) p run.shape run.is own
    (set_is p.words.volatile w.volatile word value within stored.volatile))
    (stores.volatile used_word not_used) (λ d below. stores.volatile (info_word d) (not_info d below)) (λ e p. p) where
      at : ((root_word 0 ≤ word) × (word < info_word 0)) ⊎ (start_word p.capacity 0 ≤ word)
      at = own_where p.capacity (held_in p) p.words word lasts.stable own

      not_info : (d : ℕ) → d < p.capacity → info_word d ≡ word → ⊥
      not_info d below e = elim at as (λ _. ⊥) [ inl root ↦ omega (arith, root.1) | inr inside ↦ omega arith ]

      not_used : used_word ≡ word → ⊥
      not_used e = elim at as (λ _. ⊥) [ inl root ↦ omega (arith, root.0) | inr inside ↦ omega arith ]

-- a store to an own word keeps the heap
pub store_heap : (r : Result Unit Stopped) (s : SeqState) (w : View) (o : Option ℕ) (l : ∥ IsLasting s.parts.capacity w (held_in s.parts) o ∥₁)
    (word value : ℕ) → IsSeqHeap s → s.stopped ≡ None
    → IsOwn (held_in s.parts) all_roots word → word < word_count s.parts.words → OnOk r (IsStored word value s.parts.words w)
    → IfErr r (λ e. StopsWithin e.step 1 s.parts.words w)
    → StoresOnly (λ other. other ≡ word) s.parts.words w → OnOk r (o ≡ None) → IfErr r (λ e. o ≡ Some e.step)
    → IsSeqHeap (record {
      parts = record s.parts { words = w };
      stopped = o;
      small_calls = s.small_calls + 1;
      large_calls = s.large_calls;
      refusals = s.refusals;
      refused_bytes = s.refused_bytes;
      refused_looks = s.refused_looks;
      lasts = l;
    })
store_heap r s w o l word value heap ran own within stored stops_within stores none stops = record {
  lasts = small_lasts s.parts w (λ other. other ≡ word) s.stopped o heap.lasts stores
      (λ other e. subst (IsOwn (held_in s.parts) all_roots) (sym e) own) (stop_above r o 1 s.parts.words w none stops stops_within);
  running = λ running.
      let before = heap.running ran in
      let done = done_of r o (IsStored word value s.parts.words w) stored stops running in (
        own_stored s.parts w s.stopped word value before.0 heap.lasts own within done stores,
        record { each = before.1.each },
        own_accounted s.parts w s.stopped word value before.0 heap.lasts own within done stores before.2,
      );
  calls = let few = heap.calls in let more = drew r 1 s.parts.words w (stored_runs_within r stored) stops_within in omega arith;
  refused = heap.refused;
} where
  stored_runs_within : (q : Result Unit Stopped) → OnOk q (IsStored word value s.parts.words w) → OnOk q (RunsWithin 1 s.parts.words w)
  stored_runs_within (Ok t) is = is.runs_within
  stored_runs_within (Err e) is = tt

-- at each exit no other own word is stored to
pub store_keeps : (s seen : SeqState) (w : View) (o : Option ℕ) (word value : ℕ) → s ≡ seen → StoresOnly (λ other. other ≡ word) s.parts.words w
    → MayStoreWord word value s.parts.words w
    → MayHaveStored word value (seat_of seen) (small_view s w o)
store_keeps s seen w o word value same stores may = subst (λ t. MayHaveStored word value (seat_of t) (small_view s w o)) same (record {
  held = refl;
  roots = refl;
  others = λ other own differs. record {
    volatile = λ read e. ap Some (stores.volatile other differs) ∙ e;
    durable = λ read e. elim (stores.durable other differs) as (λ _. MayRead (seat_of s) other read)
        [ inl old ↦ inr (e ∙ old) | inr old ↦ inl (e ∙ old) ];
  };
  stored = λ read may_be. by_read read may_be;
}) where
  by_read : (read : ℕ) → (read ≡ volatile_at w word) ⊎ (read ≡ durable_at w word) → (read ≡ value) ⊎ MayRead (seat_of s) word read
  by_read read (inl e) = elim may.seen as (λ _. (read ≡ value) ⊎ MayRead (seat_of s) word read)
      [ inl new ↦ inl (e ∙ new) | inr old ↦ inr (inl (e ∙ old)) ]
  by_read read (inr e) = elim may.left as (λ _. (read ≡ value) ⊎ MayRead (seat_of s) word read) [
    | inl new ↦ inl (e ∙ new)
    | inr old ↦ elim old as (λ _. (read ≡ value) ⊎ MayRead (seat_of s) word read) [ inl d ↦ inr (inr (e ∙ d)) | inr d ↦ inr (inl (e ∙ d)) ]
  ]

-- a refused one keeps all of them
pub store_refused : (r : Result Unit Stopped) (s seen : SeqState) (w : View) (o : Option ℕ) → s ≡ seen
    → OnErr r (StoresOnly (λ _. ⊥) s.parts.words w) → OnErr r (KeepsOwn (seat_of seen) (small_view s w o))
store_refused (Ok t) s seen w o same none = tt
store_refused (Err e) s seen w o same none = subst (λ t. KeepsOwn (seat_of t) (small_view s w o)) same (record {
  held = refl;
  roots = refl;
  words = λ word own. record {
    volatile = λ read at. ap Some (none.volatile word (λ f. f)) ∙ at;
    durable = λ read at. elim (none.durable word (λ f. f)) as (λ _. MayRead (seat_of s) word read)
        [ inl old ↦ inr (at ∙ old) | inr old ↦ inl (at ∙ old) ];
  };
})
