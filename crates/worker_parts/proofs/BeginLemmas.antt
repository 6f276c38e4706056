-- A worker that begins: the state of its new seat, and what the tables of its own flags are.
use Rattle.std.proofs.Common.{◌≡◌, ◌≢◌, ◌<◌, ◌≤◌, ◌+◌, ◌*◌, ◌↔◌, ◌⊎◌, inl, inr, ℕ, Bool, true, false, List, [], slice_index, None, Some, Result, Ok, Err, OnOk, IfErr, Contains, refl, subst, sym, ap, ◌∙◌, arith}
use Rattle.std.specs.Prelude.{count_by, nat_lt, not, ◌&&◌}
use Rattle.std.specs.Bool.{⊤}
use Rattle.std.specs.Result.{is_err}
use Rattle.std.proofs.lemmas.Bool.{cond-true, lt-ltb}
use Rattle.heap_model.specs.Image.{Image, words_from}
use Rattle.heap_model.proofs.ListLemmas.{numbers_below}
use Rattle.line_memory.specs.declared.memory.Stopped.{Stopped}
use Rattle.core_model.specs.Opening.{HasDoneNothing}
use Rattle.core_model.specs.View.{View}
use Rattle.heap_table.specs.AtTable.{SharedView}
use Rattle.heap_rule.specs.Seated.{IsSeatOf, SeatView}
use Rattle.heap_seat.specs.Rows.{IsRow}
use Rattle.heap_seat.specs.Tickets.{Runs, Stops}
use Rattle.heap_seat.specs.View.{View as HeapView}
use Rattle.dict_model.specs.Links.{shards}
use Rattle.dict_model.specs.Requests.{Request}
use Rattle.dict_requests.specs.Reached.{ReachesAllHeld}
use Rattle.dict_requests.specs.Removal.{IsShard}
use Rattle.run_model.specs.Needs.{is_target_of}
use Rattle.run_model.specs.Opened.{IsOpenedOver}
use Rattle.run_model.specs.Progress.{HasAnswered}
use Rattle.run_model.specs.Spending.{sees_table, tables_made, tables_missing}
use Rattle.run_model.specs.Workers.{worker_of}
use Rattle.run_model.proofs.CountLemmas.{count_rises}
use Rattle.run_model.proofs.GoesOnLemmas.{asked_shard}
use Rattle.run_model.proofs.TargetLemmas.{target_is_own}
use Rattle.seat_model.specs.CacheState.{CacheState, CacheValue, heap_view}
use Rattle.seat_model.proofs.HeldLemmas.{seat_law}
use Rattle.shard_moves.specs.Tables.{is_flagged, flag_count, TellsTable}
use Rattle.thread_cache.specs.Keeps.{IsNew, KeepsSeat}
use Rattle.worker_run.proofs.OpenLemmas.{all_opened}
use Rattle.worker_run.proofs.ProgressLemmas.{begins}
use Rattle.worker_parts.specs.Begun.{IsBegun, IsOpenedFor}
use Rattle.worker_parts.specs.Jobs.{IsFirst, image_of}
use Rattle.worker_parts.proofs.StateLemmas.{goes_seat, none_of, tells_table, view_of}

-- a seat that was just made of one that was opened for a worker
pub new_first : (shared : SharedView) (workers worker : ℕ) (seat : SeatView) (s : CacheState) → worker < workers → IsSeatOf shared seat
    → IsOpenedFor shared.opening workers worker seat.view
    → IsNew seat s → IsFirst shared workers worker s
new_first shared workers worker seat s below of fresh new = record {
  below = below;
  table = new.table ∙ of.table;
  setup = ap (λ (v : View). v.setup) new.view ∙ of.setup;
  fresh = subst (IsOpenedFor shared.opening workers worker) (sym new.view) fresh;
  unused = record {
    small = new.small;
    large = new.large;
    nothing = subst (λ (v : View). HasDoneNothing v.setup v) (sym new.view) fresh.nothing;
  };
}

-- what is so of it
module _ (shared : SharedView) (workers worker : ℕ) (first : CacheState) (is_first : IsFirst shared workers worker first) where
  pub first_opened : IsOpenedOver (image_of shared) (heap_view first)
  first_opened = subst (λ k. IsOpenedOver (slice_index k.opened) (heap_view first)) is_first.setup (is_first.fresh.opened first refl)

  pub first_answered : HasAnswered (image_of shared) [] (heap_view first)
  first_answered = begins (image_of shared) (heap_view first) (seat_law first) first_opened

  pub first_exact : ReachesAllHeld (heap_view first)
  first_exact = all_opened (image_of shared) (heap_view first) (seat_law first) first_opened

  -- it owns the roots of its shards
  pub first_owns : (shard : ℕ) → shard < shards → worker_of workers shard ≡ worker → Contains first.view.roots shard
  first_owns shard small is = (is_first.fresh.roots_own shard (omega (arith, small))).1
      (cond-true (nat_lt shard shards) (worker_of workers shard) 0 (lt-ltb shard shards small) ∙ is)

  -- each target of its own may be asked
  pub first_shard : (requests : List Request) (shard : ℕ) → shard < shards → is_target_of workers worker requests shard ≡ true
      → IsShard (heap_view first) shard
  first_shard requests shard small is = asked_shard (image_of shared) [] (heap_view first) shard first_opened.maps small
      (first_owns shard small (target_is_own workers worker requests shard is)) first_answered

-- where it was done, what follows from what was so before
pub ok_then : (result : Result ⊤ Stopped) (P Q : Type 0) → P → OnOk result (P → Q) → OnOk result Q
ok_then (Ok a) P Q p q = q p
ok_then (Err e) P Q p q = tt

-- counts of shards by flags that tell the same of each
module _ (flags : List Bool) (wanted : ℕ → Bool) (same : (shard : ℕ) → shard < shards → is_flagged flags shard ≡ wanted shard) where
  count_both : (other : ℕ → Bool) → count_by (λ k. is_flagged flags k && other k) (words_from (λ i. i) 0 shards) ≡ count_by
      (λ k. wanted k && other k) (words_from (λ i. i) 0 shards)
  count_both other =
      let at : (k : ℕ) → Contains (words_from (λ i. i) 0 shards) k → (is_flagged flags k && other k) ≡ (wanted k && other k) =
      λ k there. let below = numbers_below 0 shards k there in ap (λ b. b && other k) (same k (omega arith)) in
      let up = count_rises (λ k. is_flagged flags k && other k) (λ k. wanted k && other k) (words_from (λ i. i) 0 shards)
      (λ k there is. sym (at k there) ∙ is) in
      let down = count_rises (λ k. wanted k && other k) (λ k. is_flagged flags k && other k) (words_from (λ i. i) 0 shards)
      (λ k there is. at k there ∙ is) in
      omega arith

  pub count_flags : flag_count flags ≡ count_by wanted (words_from (λ i. i) 0 shards)
  count_flags =
      let at : (k : ℕ) → Contains (words_from (λ i. i) 0 shards) k → is_flagged flags k ≡ wanted k = λ k there. let below =
      numbers_below 0 shards k there in same k (omega arith) in
      let up = count_rises (is_flagged flags) wanted (words_from (λ i. i) 0 shards) (λ k there is. sym (at k there) ∙ is) in
      let down = count_rises wanted (is_flagged flags) (words_from (λ i. i) 0 shards) (λ k there is. at k there ∙ is) in
      omega arith

  -- what it makes, and what is missing
  made_same : (v w : HeapView) → tables_made (is_flagged flags) v w ≡ tables_made wanted v w
  made_same v w = count_both (λ k. sees_table w k && not (sees_table v k))

  missing_same : (v : HeapView) → tables_missing (is_flagged flags) v ≡ tables_missing wanted v
  missing_same v = count_both (λ k. not (sees_table v k))

  -- the tables that are made by these flags, where the making of tables ended so
  module _ {C : Type 0} (gives : C → ℕ → C → Type 0) (image : Image) (tables : List Bool) (s t : CacheValue C) (fresh : s.state.view.stopped ≡ None)
      (answered : HasAnswered image [] (heap_view t.state)) (most : t.state.view.taken ≤ s.state.view.taken + tables_missing (is_flagged flags)
      (heap_view s.state))
      (calls : IsRow (512 * flag_count flags) (flag_count flags) (flag_count flags) (heap_view s.state) (heap_view t.state))
      (roots_are : t.state.view.roots ≡ s.state.view.roots)
      (kept : KeepsSeat gives s t) where
    begun_by : (stopped : Bool)
        → (stopped ≡ false → (shard : ℕ) → shard < shards → is_flagged flags shard ≡ true
        → TellsTable view_of (KeepsSeat gives) none_of shard (is_flagged tables shard) s t)
        → (stopped ≡ false → t.state.view.taken ≤ s.state.view.taken + tables_made (is_flagged flags) (heap_view s.state) (heap_view t.state))
        → ((stopped ≡ true) ↔ (t.state.view.stopped ≢ None)) → (stopped ≡ false → ReachesAllHeld (heap_view t.state))
        → IsBegun image wanted (is_flagged tables) stopped s.state t.state
    begun_by stopped told taken stops exact = record {
      answered = answered;
      told = λ going shard small is. tells_table (KeepsSeat gives) (goes_seat gives) shard (is_flagged tables shard) s t
          (told going shard small (same shard small ∙ is));
      taken = λ going. let few = taken going in let made = made_same (heap_view s.state) (heap_view t.state) in omega arith;
      most = let missing = missing_same (heap_view s.state) in omega (arith, most, missing);
      calls = subst (λ n. IsRow (512 * n) n n (heap_view s.state) (heap_view t.state)) count_flags calls;
      roots_are = roots_are;
      role_is = kept.heap.2;
      goes_on = goes_seat gives s t kept;
      stops = stops;
      exact = exact;
    }

    pub begun_ended : (result : Result ⊤ Stopped)
        → OnOk result ((shard : ℕ) → shard < shards → is_flagged flags shard ≡ true
        → TellsTable view_of (KeepsSeat gives) none_of shard (is_flagged tables shard) s t)
        → OnOk result (t.state.view.taken ≤ s.state.view.taken + tables_made (is_flagged flags) (heap_view s.state) (heap_view t.state))
        → OnOk result (ReachesAllHeld (heap_view t.state)) → OnOk result
        ((heap_view t.state ≡ heap_view s.state) ⊎ Runs (heap_view s.state) (heap_view t.state))
        → IfErr result (λ e. Stops e.step (heap_view s.state) (heap_view t.state))
        → IsBegun image wanted (is_flagged tables) (is_err result) s.state t.state
    begun_ended (Ok a) told taken exact runs cause = begun_by false (λ _. told) (λ _. taken)
        ((λ e. absurd (let clash : true ≡ false = sym e in cc)), (λ some. absurd (some going))) (λ _. exact) where
          going : t.state.view.stopped ≡ None
          going = elim runs as (λ _. t.state.view.stopped ≡ None) [ inl is ↦ ap (λ (v : HeapView). v.stopped) is ∙ fresh | inr ran ↦ ran.running ]
    begun_ended (Err e) told taken exact runs cause =
        begun_by true (λ no. absurd (cc)) (λ no. absurd (cc)) (
          (λ _ none. let clash : Some e.step ≡ None = sym cause.stopped ∙ none in
              absurd (cc)),
          (λ _. refl),
        ) (λ no. absurd (cc))
