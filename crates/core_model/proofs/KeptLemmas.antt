-- Each kind of step keeps memory and seats fitting together, won or lost.
use Rattle.std.proofs.Common.{◌≡◌, ◌≢◌, ℕ, ◌+◌, ◌<◌, inl, inr, Bool, true, false, cond, nat_eq, nat_lt, List, Option, None, Some, get_or, set, length, refl, ap, sym, subst, ◌∙◌, eq-eqb, ne_eqb, lt-ltb, length-set, arith}
use Rattle.std.proofs.lemmas.Bool.{cases_eq, cases_lt}
use Rattle.core_model.specs.declared.event.Event.{Event}
use Rattle.core_model.specs.declared.event.Event.TheVariants.{Tick, Load, Store, Settle, LookUsed, TakeFresh, KeepUsed, LookHead, LookLink, Pop, Push, LookAnchor, TakeAll, Give}
use Rattle.core_model.specs.Memory.{Memory, StepPlace, tickets, used, head, anchor, info, read, write}
use Rattle.core_model.specs.View.{Setup, View, one_if_some, times_raw, times_classed, times_block}
use Rattle.core_model.specs.Effects.{seen, seen_word, seen_of, before, place_of, taken_fresh, lost, drew, stopped, popped, popped_head, pushed, pushed_head, taken_all, given, batch_anchor, first_of}
use Rattle.core_model.specs.ViewAfter.{shifted, after_cut, after_alloc, after_free, after_lift, after_large, after_split}
use Rattle.heap_model.specs.Words.{head_first, full_anchor}
use Rattle.heap_model.specs.Geometry.{superblock_of}
use Rattle.core_model.specs.Cells.{cell_at}
use Rattle.core_model.specs.declared.event.Shift.{Shift}
use Rattle.core_model.specs.declared.event.Shift.TheVariants.{Cut, Alloc, Free, Lift, Large, Split}
use Rattle.core_model.specs.Guards.{MayShift, MayStep}
use Rattle.core_model.proofs.BlockLemmas.{first_there}
use Rattle.core_model.proofs.PlaceLemmas.{not-lt}
use Rattle.std.proofs.lemmas.List.{get_or-set_same, set-set}
use Rattle.core_model.specs.Sound.{tally_of, times_cut, Good}
use Rattle.core_model.specs.Steps.{Keeps}
use Rattle.core_model.proofs.MemoryLemmas.{write_read}
use Rattle.core_model.proofs.QuietLemmas as quiet
use Rattle.core_model.proofs.LookLemmas
use Rattle.core_model.proofs.FreshLemmas as fresh
use Rattle.core_model.proofs.KeepUsedLemmas
use Rattle.core_model.proofs.PopLemmas as pop
use Rattle.core_model.proofs.PushLemmas as push
use Rattle.core_model.proofs.TakeAllLemmas as take_all
use Rattle.core_model.proofs.GiveLemmas as give
use Rattle.core_model.proofs.OwnStepLemmas as own
use Rattle.core_model.proofs.StoreAnchorLemmas as store
use Rattle.core_model.proofs.DrawLemmas as draws
use Rattle.core_model.proofs.ShiftLemmas as shifts
use Rattle.core_model.proofs.LiftLemmas
use Rattle.core_model.proofs.SpanLemmas as spans
use Rattle.core_model.proofs.SplitLargeLemmas
use Rattle.core_model.proofs.CutLemmas as cuts
use Rattle.heap_model.proofs.ListLemmas.{one_at_most}
use Rattle.core_model.proofs.TotalLemmas.{total_at}

-- by whether the word is as it was seen
exchange : (a b : ℕ) (P : Bool → Type 0) → (a ≡ b → P true) → (a ≢ b → P false) → P (nat_eq a b)
exchange a b P won lost = elim (cases_eq a b) [
  | inl same ↦ subst P (sym (eq-eqb a b same)) (won same)
  | inr other ↦ subst P (sym (ne_eqb a b other)) (lost other)
]

module _ (k : Setup) (m : Memory) (views : List View) (i : ℕ) (v : View) (below : i < length views) (at : get_or views i v ≡ v)
    (good : Good k m views) where
  -- a step that leaves the word as it found it
  reads : (p : StepPlace) (w : View) → Good k m (set views i w) → Good k (write m p (read m p)) (set views i w)
  reads p w kept = subst (λ n. Good k n (set views i w)) (sym (write_read m p)) kept

  pub kept_look_used : MayStep m v LookUsed → Keeps k m views i v LookUsed
  kept_look_used may = reads (place_of v LookUsed) _ (LookLemmas.look_used k m views i v below at good may.ticket)

  pub kept_look_head : (list : ℕ) → MayStep m v (LookHead list) → Keeps k m views i v (LookHead list)
  kept_look_head list may = reads (place_of v (LookHead list)) _ (LookLemmas.look_head k m views i v below at good may.ticket list may.ready)

  pub kept_look_anchor : (d : ℕ) → MayStep m v (LookAnchor d) → Keeps k m views i v (LookAnchor d)
  kept_look_anchor d may = reads (place_of v (LookAnchor d)) _ (LookLemmas.look_anchor k m views i v below at good may.ticket d may.ready)

  pub kept_take_fresh : (n : ℕ) → MayStep m v (TakeFresh n) → Keeps k m views i v (TakeFresh n)
  kept_take_fresh n may = exchange (used m) (seen v.seen_used)
      (λ t. Good k (write m (place_of v (TakeFresh n)) (cond t (used m + n) (used m)))
      (set views i (cond t (taken_fresh v n) (record (lost v (used m)) { seen_used = None }))))
      (λ same. fresh.take_fresh k m views i v below at good n may.ticket may.ready same)
      (λ other. reads (place_of v (TakeFresh n)) _ (quiet.lost_used k m views i v below at good may.ticket (used m) may.ready.is_seen other))

  pub kept_keep_used : MayStep m v KeepUsed → Keeps k m views i v KeepUsed
  kept_keep_used may = KeepUsedLemmas.keep_used k m views i v below at good may.ticket may.ready

  pub kept_look_link : MayStep m v LookLink → Keeps k m views i v LookLink
  kept_look_link may = reads (place_of v LookLink) _ (LookLemmas.look_link k m views i v below at good may.ticket may.ready)

  pub kept_pop : MayStep m v Pop → Keeps k m views i v Pop
  kept_pop may = exchange (head m (seen_of v.seen_head)) (seen_word v.seen_head)
      (λ t. Good k (write m (place_of v Pop) (cond t (popped_head v) (head m (seen_of v.seen_head))))
      (set views i (cond t (popped v (before (head_first (seen_word v.seen_head))))
      (record (lost v (head m (seen_of v.seen_head))) { seen_head = None }))))
      (λ same. pop.pop k m views i v below at good may.ticket may.ready same)
      (λ other. reads (place_of v Pop) _ (quiet.lost_head k m views i v below at good may.ticket
      (head m (seen_of v.seen_head)) may.ready.is_seen other))

  pub kept_push : (d : ℕ) → MayStep m v (Push d) → Keeps k m views i v (Push d)
  kept_push d may = exchange (head m (seen_of v.seen_head)) (seen_word v.seen_head)
      (λ t. Good k (write m (place_of v (Push d)) (cond t (pushed_head v d) (head m (seen_of v.seen_head))))
      (set views i (cond t (pushed v d) (record (lost v (head m (seen_of v.seen_head))) { seen_head = None }))))
      (λ same. push.push k m views i v below at good may.ticket d may.ready same)
      (λ other. reads (place_of v (Push d)) _ (quiet.lost_head k m views i v below at good may.ticket
      (head m (seen_of v.seen_head)) may.ready.is_seen other))

  pub kept_take_all : (d : ℕ) → MayStep m v (TakeAll d) → Keeps k m views i v (TakeAll d)
  kept_take_all d may = exchange (anchor m d) (seen_word v.seen_anchor)
      (λ t. Good k (write m (place_of v (TakeAll d)) (cond t full_anchor (anchor m d)))
      (set views i (cond t (taken_all m v d) (record (lost v (anchor m d)) { seen_anchor = None }))))
      (λ same. take_all.take_all k m views i v below at good may.ticket d may.ready same)
      (λ other. reads (place_of v (TakeAll d)) _ (quiet.lost_anchor k m views i v below at good may.ticket (anchor m d) may.ready.is_seen
      (subst (λ x. times_raw x v ≡ 0) (sym may.ready.of) (not_raw_claimed d may.ready.claimed))
      (λ same. other (ap (anchor m) (sym may.ready.of) ∙ same)))) where
        not_raw_claimed : (e : ℕ) → 0 < times_classed e v.classed → times_raw e v ≡ 0
        not_raw_claimed e some = let r = total_at (times_raw e) views i v below at in
            let c = total_at (λ (u : View). times_classed e u.classed) views i v below at in
            let p = good.shaped.placed.one_place e in let most = one_at_most (nat_lt e (used m)) in omega arith

  pub kept_give : (d : ℕ) → MayStep m v (Give d) → Keeps k m views i v (Give d)
  kept_give d may = exchange (anchor m d) (seen_word v.seen_anchor)
      (λ t. Good k (write m (place_of v (Give d)) (cond t (batch_anchor v d) (anchor m d)))
      (set views i (cond t (given v d) (record (lost v (anchor m d)) { seen_anchor = None }))))
      (λ same. give.give k m views i v below at good may.ticket d may.ready same)
      (λ other. reads (place_of v (Give d)) _ (quiet.lost_anchor k m views i v below at good may.ticket (anchor m d) may.ready.is_seen
      (subst (λ x. times_raw x v ≡ 0) (sym may.ready.of) not_raw) (λ same. other (ap (anchor m) (sym may.ready.of) ∙ same)))) where
        not_raw : times_raw d v ≡ 0
        not_raw = let b = first_of v.batch.blocks in let there = first_there v.batch.blocks may.ready.some in
            let t = total_at (times_block b) views i v below at in
            let cut = (good.shaped.chained.inside b (omega arith)).0 in let s = good.set_up i v below at in
            let here : superblock_of k.capacity b ≡ d = ap (λ (q : Setup). superblock_of q.capacity b) (sym s.setup)
            ∙ ((good.blocks i v below at).batched b there).0 ∙ may.ready.batch in
            let c = ap (times_cut good.shape (tally_of views)) here in let r = total_at (times_raw d) views i v below at in
            let p = good.shaped.placed.one_place d in let most = one_at_most (nat_lt d (used m)) in omega arith

  pub kept_load : (word : ℕ) → MayStep m v (Load word) → Keeps k m views i v (Load word)
  kept_load word may = reads (place_of v (Load word)) _ (own.load k m views i v below at good word may.ready may.ticket)

  pub kept_settle : (word : ℕ) → MayStep m v (Settle word) → Keeps k m views i v (Settle word)
  kept_settle word may = own.settle k m views i v below at good word may.ready

  pub kept_store : (word value : ℕ) → MayStep m v (Store word value) → Keeps k m views i v (Store word value)
  kept_store word value may = store.store k m views i v below at good may.ticket word value (cell_at v.setup.capacity word) refl may.ready.0 may.ready.1

  -- the shift that goes with a draw
  module _ (going : one_if_some v.stopped ≡ 0) (room : m.drawn < v.setup.budget) where
    abbrev m1 : Memory
    m1 = write m tickets (m.drawn + 1)

    abbrev v1 : View
    v1 = drew v m.drawn

    abbrev views1 : List View
    views1 = set views i v1

    good1 : Good k m1 views1
    good1 = draws.draw k m views i v below at good going room

    below1 : i < length views1
    below1 = subst (λ n. i < n) (sym (length-set views i v1)) below

    at1 : get_or views1 i v1 ≡ v1
    at1 = get_or-set_same views i v1 v1 below

    twice : (w : View) → Good k m1 (set views1 i w) → Good k m1 (set views i w)
    twice w kept = subst (Good k m1) (set-set views i v1 w) kept

    shift_kept : (shift : Option Shift) → MayShift m v shift → Good k m1 (set views i (shifted m v1 shift))
    shift_kept None may = good1
    shift_kept (Some (Cut d)) may = twice (after_cut m v1 d) (cuts.cut k m1 views1 i v1 below1 at1 good1 d
        (record {
          cutting = may.cutting;
          class = may.class;
          durable_class = may.durable_class;
          durable = may.durable;
          linked = may.linked;
          uncached = may.uncached;
        })
        (let c = (good.tickets i v below at).cuts in omega arith))
    shift_kept (Some (Alloc class)) may = twice (after_alloc v1 class)
        (shifts.alloc k m1 views1 i v1 below1 at1 good1 class (record { is_class = may.is_class; cached = may.cached }))
    shift_kept (Some (Free block)) may = twice (after_free v1 (info m (superblock_of v.setup.capacity block)) block)
        (shifts.free k m1 views1 i v1 below1 at1 good1 block (record { is_class = may.is_class; held = may.held; linked = may.linked }))
    shift_kept (Some (Lift class)) may = twice (after_lift v1 class) (LiftLemmas.lift k m1 views1 i v1 below1 at1 good1 class (record {
      is_class = may.is_class;
      cached = may.cached;
      behind = λ some. let b = may.behind some in record { same = b.same; unchanged = b.unchanged; linked = b.linked };
    }))
    shift_kept (Some (Large d n)) may = twice (after_large v1 d n) (spans.hold_large k m1 views1 i v1 below1 at1 good1 d n
        (record {
          some = may.some;
          claimed = may.claimed;
          empty = may.empty;
          durable = may.durable;
          first = may.first;
          others = may.others;
          durable_infos = may.durable_infos;
        }))
    shift_kept (Some (Split block)) may = twice (after_split v1 (superblock_of v.setup.capacity block))
        (SplitLargeLemmas.split_large k m1 views1 i v1 below1 at1 good1 block (record { held = may.held; first = may.first }))

  pub kept_tick : (shift : Option Shift) → MayStep m v (Tick shift) → Keeps k m views i v (Tick shift)
  kept_tick shift may = elim (cases_lt m.drawn v.setup.budget) [
    | inl room ↦ subst (λ t. Good k (write m tickets (m.drawn + 1))
        (set views i (cond t (shifted m (drew v m.drawn) shift) (stopped v m.drawn)))) (sym (lt-ltb m.drawn v.setup.budget room))
        (shift_kept may.going room shift may.ready)
    | inr spent ↦ subst (λ t. Good k (write m tickets (m.drawn + 1))
        (set views i (cond t (shifted m (drew v m.drawn) shift) (stopped v m.drawn)))) (sym (not-lt m.drawn v.setup.budget spent))
        (draws.stop k m views i v below at good may.going spent)
  ]

  -- every kind of step
  pub kept : (event : Event) → MayStep m v event → Keeps k m views i v event
  kept (Tick shift) may = kept_tick shift may
  kept (Load word) may = kept_load word may
  kept (Store word value) may = kept_store word value may
  kept (Settle word) may = kept_settle word may
  kept LookUsed may = kept_look_used may
  kept (TakeFresh n) may = kept_take_fresh n may
  kept KeepUsed may = kept_keep_used may
  kept (LookHead list) may = kept_look_head list may
  kept LookLink may = kept_look_link may
  kept Pop may = kept_pop may
  kept (Push d) may = kept_push d may
  kept (LookAnchor d) may = kept_look_anchor d may
  kept (TakeAll d) may = kept_take_all d may
  kept (Give d) may = kept_give d may
