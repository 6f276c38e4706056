-- What loads, stores, write-backs and fences of a seat of the core are for a seat of a heap.
use Rattle.std.proofs.Common.{◌≡◌, ◌≢◌, ◌<◌, ◌⊎◌, ℕ, ◌+◌, ◌/◌, ◌^◌, inl, inr, Result, Ok, Err, OnOk, IfOk, refl, sym, subst, arith}
use Rattle.std.specs.Bool.{⊤}
use Rattle.std.specs.Prelude.{Contains}
use Rattle.heap_seat.specs.declared.spot.Spot.{Spot}
use Rattle.heap_seat.specs.declared.spot.Spot.TheVariants.{InBlock, Root}
use Rattle.heap_seat.specs.Calls.{Fences, IsWrittenWith, Loads, Stores, WritesBack}
use Rattle.heap_seat.specs.Tickets.{Runs}
use Rattle.heap_seat.specs.View.{word_of}
use Rattle.heap_seat.specs.Words.{IsOwnSpot, MayHaveStored, MayRead as MayReadHeap, in_block, in_root}
use Rattle.line_memory.specs.declared.memory.Stopped.{Stopped}
use Rattle.line_memory.specs.Marks.{IsMarked, marked_words}
use Rattle.line_memory.specs.Marked.{marked_words-has, marked_words-only}
use Rattle.heap_model.specs.Geometry.{image_words, root_word}
use Rattle.core_model.specs.View.{View}
use Rattle.heap_rule.specs.Seated.{SeatView}
use Rattle.seat_costs.specs.Costs.{one_draw}
use Rattle.seat_costs.specs.Rows.{StoringRow}
use Rattle.seat_costs.specs.Words.{IsHeldWord, KeepsWord as KeepsRowWord}
use Rattle.seat_costs.proofs.WordLemmas.{owns_held}
use Rattle.heap_rule.proofs.SettleLemmas.{own_below}
use Rattle.seat_model.specs.CacheState.{CacheState, CallCounts, counts_of, heap_view, heap_view_of}
use Rattle.seat_model.proofs.HeldLemmas.{own_held, read_from, read_to, seat_law, word_law}
use Rattle.seat_model.proofs.TakenBlocks.{held_same}
use Rattle.thread_cache.specs.Own.{HasFenced, HasValue, HasMarkedLine, MayHave, RunsOn}
use Rattle.thread_cache.proofs.CallLemmas.{SmallStep, at_state, runs_law}

-- a spot is a word of the seat's
pub spot_held : (s : CacheState) (spot : Spot) → IsOwnSpot (heap_view s) spot → IsHeldWord s.view (word_of spot)
spot_held s (InBlock b index) own = own_held s (b.first_word + index)
    (in_block b (b.first_word + index) own.0 (record { from = omega arith; until = (let less = own.1 in omega arith) }))
spot_held s (Root i) own = own_held s (root_word i) (in_root i (root_word i) own refl)

pub spot_low : (s : CacheState) (spot : Spot) → IsOwnSpot (heap_view s) spot → word_of spot < 2 ^ 48
spot_low s (InBlock b index) own = let placed = (seat_law s).placed b own.0 in let short = placed.short in let less = own.1 in omega arith
spot_low s (Root i) own = let below = (seat_law s).roots_are i own in omega arith

-- a load, and a fence
module _ (s : CacheState) (x y : SeatView) (n : CallCounts) (step : SmallStep s x y n) where
  runs_of : RunsOn x.view y.view → Runs (heap_view s) (heap_view_of y.view y.marks n)
  runs_of runs = let r = at_state (λ v. RunsOn v y.view) s x step.call.was runs in
      runs_law s.view y.view s.marks y.marks (counts_of s) n step.call.has r.ran r.going r.later

  marks_kept : (word : ℕ) → (IsMarked x.marks word → IsMarked y.marks word) → Contains (marked_words s.marks) word
      → Contains (marked_words y.marks) word
  marks_kept word keeps pending = marked_words-has y.marks word (keeps
      (subst (λ marks. IsMarked marks word) (sym step.call.was.marks) (marked_words-only s.marks word pending)))

  pub small_loads : (word : ℕ) (result : Result ℕ Stopped) → y.marks ≡ x.marks → IfOk result (λ value. HasValue word value x.view y.view)
      → IfOk result (λ value. Loads word value (heap_view s) (heap_view_of y.view y.marks n))
  small_loads word (Ok value) marks loaded = record {
    runs = runs_of loaded.runs;
    seen = loaded.seen;
    pending = λ other. marks_kept other (λ marked. subst (λ m. IsMarked m other) (sym marks) marked);
  }
  small_loads word (Err e) marks loaded = tt

  pub small_fences : (result : Result ⊤ Stopped) → OnOk result (HasFenced x y) → OnOk result (Fences (heap_view s) (heap_view_of y.view y.marks n))
  small_fences (Ok a) fenced = record {
    runs = runs_of fenced.runs;
    durable = λ word own pending.
        let held = own_held s word own in
        let d = fenced.durable word (owns_held x.view word (subst (λ (v : View). IsHeldWord v word) (sym step.call.was.view) held))
        (subst (λ marks. IsMarked marks word) (sym step.call.was.marks) (marked_words-only s.marks word pending)) in
        record { value = d.value; seen = d.seen; left = d.left };
  }
  small_fences (Err e) fenced = tt

  pub small_writes_back : (spot : Spot) (result : Result ⊤ Stopped) → IsOwnSpot (heap_view s) spot → OnOk result (HasMarkedLine (word_of spot) x y)
      → ((other : ℕ) → IsMarked x.marks other → IsMarked y.marks other) → OnOk result (WritesBack spot (heap_view s) (heap_view_of y.view y.marks n))
  small_writes_back spot (Ok a) own marked keeps = record {
    runs = runs_of marked.runs;
    line = λ word within. marked_words-has y.marks word (by_spot spot own marked.marked word within);
    pending = λ other. marks_kept other (keeps other);
  } where
    by_spot : (at : Spot) → IsOwnSpot (heap_view s) at → ((k : ℕ) → k < image_words x.view.setup.capacity → k / 8 ≡ word_of at / 8 → IsMarked y.marks k)
        → (word : ℕ) → IsWrittenWith at word → IsMarked y.marks word
    by_spot (InBlock b index) held line word within = line word (own_below x.view word
        (owns_held x.view word (subst (λ (v : View). IsHeldWord v word) (sym step.call.was.view)
        (own_held s word (in_block b word held.0 within.0))))) within.1
    by_spot (Root i) held line word within = subst (λ k. IsMarked y.marks k) (sym within) (line (root_word i)
        (own_below x.view (root_word i) (owns_held x.view (root_word i)
        (subst (λ (v : View). IsHeldWord v (root_word i)) (sym step.call.was.view) (spot_held s (Root i) held)))) refl)
  small_writes_back spot (Err e) own marked keeps = tt

  pub small_stores : (word value : ℕ) (result : Result ⊤ Stopped) → OnOk result (HasValue word value x.view y.view)
      → ((other : ℕ) → other ≢ word → IsMarked x.marks other → IsMarked y.marks other)
      → OnOk result (Stores word value (heap_view s) (heap_view_of y.view y.marks n))
  small_stores word value (Ok a) stored keeps = record {
    runs = runs_of stored.runs;
    seen = stored.seen;
    pending = λ other differs. marks_kept other (keeps other differs);
  }
  small_stores word value (Err e) stored keeps = tt

  -- a store may leave the value in its word, and stores to no other
  pub small_may_store : (word value : ℕ) → StoringRow word one_draw x y → MayHave word value x.view y.view
      → MayHaveStored word value (heap_view s) (heap_view_of y.view y.marks n)
  small_may_store word value row may = record {
    held = held_same y.view s.view.setup s.view.small s.view.large (at_state (λ v. y.view.setup ≡ v.setup) s x step.call.was row.but.passes.setup)
        (at_state (λ v. y.view.small ≡ v.small) s x step.call.was row.small) (at_state (λ v. y.view.large ≡ v.large) s x step.call.was row.large);
    roots = at_state (λ v. y.view.roots ≡ v.roots) s x step.call.was row.but.passes.roots;
    others = λ other own differs. word_law s.view y.view s.marks y.marks (counts_of s) n other
        (at_state (λ v. KeepsRowWord v y.view other) s x step.call.was (row.but.words other
        (subst (λ (v : View). IsHeldWord v other) (sym step.call.was.view) (own_held s other own), differs)));
    stored = λ read is. by_may (at_state (λ v. MayHave word value v y.view) s x step.call.was may) read is;
  } where
    by_may : MayHave word value s.view y.view → (read : ℕ) → MayReadHeap (heap_view_of y.view y.marks n) word read
        → (read ≡ value) ⊎ MayReadHeap (heap_view s) word read
    by_may may read is = elim (may.each read (read_to y.view word read is)) as (λ _. (read ≡ value) ⊎ MayReadHeap (heap_view s) word read) [
      | inl new ↦ inl new
      | inr old ↦ inr (read_from s.view word read old)
    ]
