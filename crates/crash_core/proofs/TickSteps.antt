-- The core when a draw goes with a change of a seat's parts.
use Rattle.std.proofs.Common.{◌≡◌, ℕ, zero, suc, ◌+◌, ◌*◌, ◌<◌, ◌≤◌, true, nat_lt, List, [], ◌∷◌, get_or, set, length, None, Some, refl, ap, sym, subst, ◌∙◌, length-set, lt-ltb, arith}
use Rattle.std.proofs.lemmas.List.{get_or-set_same}
use Rattle.std.specs.Prelude.{Vec}
use Rattle.std.specs.declared.alloc.Global.{Global}
use Rattle.std.specs.Vec.{with_item}
use Rattle.super_block.specs.declared.geometry.Geometry.{Geometry}
use Rattle.heap_model.specs.Geometry.{image_words, superblock_of}
use Rattle.core_model.specs.declared.answer.StepAnswer.TheVariants.{Done, Stopped}
use Rattle.core_model.specs.declared.event.Event.TheVariants.{Tick}
use Rattle.core_model.specs.declared.event.Shift.{Shift}
use Rattle.core_model.specs.declared.event.Shift.TheVariants.{Cut, Alloc, Free, Lift, Large, Split}
use Rattle.seat_state.specs.declared.notes.SeatNotes.{SeatNotes}
use Rattle.crash_core.specs.declared.state.CoreState.{CoreState}
use Rattle.core_model.specs.Memory.{Memory, info}
use Rattle.core_model.specs.View.{Setup, View}
use Rattle.core_model.specs.Effects.{drew, stopped}
use Rattle.core_model.specs.ViewAfter.{shifted}
use Rattle.core_model.specs.Guards.{MayShift, MayFree}
use Rattle.core_model.specs.Steps.{seat_after}
use Rattle.crash_core.specs.Standing.{IsSeatAt, held_in, place_for, no_block, HasBlocksOf, HasRoots, IsKept, IsCore, KeepsViews, IsMoved, Moves, Decides, Steps, steps_stopped}
use Rattle.seat_state.specs.Superblocks.{HasSuperblocks}
use Rattle.core_model.proofs.PlaceLemmas.{pick, skip, not-lt}
use Rattle.core_model.proofs.OwnerLemmas.{in_lists_total}
use Rattle.crash_core.proofs.StandingLemmas.{seat_is, among, step_done, may_step, memory_in, stands_after}
use Rattle.seat_state.proofs.WordLemmas.{entry_there}
use Rattle.crash_core.proofs.WordSteps.{drawn_is, drawn_more}
use Rattle.seat_state.proofs.DecisionLemmas.{going_on}

set_twice : {A : Type 0} (xs : List A) (i : ℕ) (a b : A) → set (set xs i a) i b ≡ set xs i b
set_twice [] i a b = refl
set_twice (x ∷ xs) zero a b = refl
set_twice (x ∷ xs) (suc i) a b = ap (λ l. x ∷ l) (set_twice xs i a b)

-- a block that may be freed is held
pub free_held : (c : CoreState) (i block : ℕ) → IsCore c → i < length c.seats.items → Decides c i (λ m v. MayFree m v block) true
    → 0 < held_in (place_for i (get_or c.blocks.items block no_block))
free_held c i block core less decides =
    let below : i < length core.views = among core.keeps less in
    let here = entry_there core.views i below in
    let seat = entry_there c.seats.items i less in
    let may = (decides core.setup core.views here.0 core.keeps below here.1).0 refl in
    let s = in_lists_total block (info (memory_in c core.setup) (superblock_of here.0.setup.capacity block)) here.0.small may.held in
    let o = ((core.keeps.each i seat.0 here.0 below (seat_is less seat.1) here.1).blocks block).held in omega arith

-- a change says nothing of a ticket
kept_with : (c c' : CoreState) (i : ℕ) (t : SeatNotes) (m : Memory) (v : View) (shift : Shift) (found ticket : ℕ)
    → c'.blocks.items ≡ c.blocks.items → c'.superblocks.items ≡ c.superblocks.items → c'.roots.items ≡ c.roots.items
    → found ≡ ticket → IsKept c i t (shifted m v (Some shift)) → IsKept c' i (record t { ticket = Some ticket }) (shifted m (drew v found) (Some shift))
kept_with c c' i t m v shift found ticket blocks superblocks roots is kept = by_shift shift kept where
  by_shift : (shift : Shift) → IsKept c i t (shifted m v (Some shift))
      → IsKept c' i (record t { ticket = Some ticket }) (shifted m (drew v found) (Some shift))
  by_shift (Cut d) h = record {
    notes = (let n = h.notes in record {
      ticket = ap Some is;
      stopped = n.stopped;
      seen_used = n.seen_used;
      seen_head = n.seen_head;
      seen_link = n.seen_link;
      seen_anchor = n.seen_anchor;
    });
    caches = h.caches;
    batch = h.batch;
    blocks = subst (λ l. HasBlocksOf l i (shifted m (drew v found) (Some (Cut d))).small (shifted m (drew v found) (Some (Cut d))).caches
        (shifted m (drew v found) (Some (Cut d))).batch.blocks) (sym blocks) h.blocks;
    superblocks = subst (λ l. HasSuperblocks l i (shifted m (drew v found) (Some (Cut d))).raw (shifted m (drew v found) (Some (Cut d))).split
        (shifted m (drew v found) (Some (Cut d))).cutting (shifted m (drew v found) (Some (Cut d))).classed
        (shifted m (drew v found) (Some (Cut d))).large) (sym superblocks) h.superblocks;
    roots = subst (λ l. HasRoots l i (shifted m (drew v found) (Some (Cut d))).roots) (sym roots) h.roots;
  }
  by_shift (Alloc class) h = record {
    notes = (let n = h.notes in record {
      ticket = ap Some is;
      stopped = n.stopped;
      seen_used = n.seen_used;
      seen_head = n.seen_head;
      seen_link = n.seen_link;
      seen_anchor = n.seen_anchor;
    });
    caches = h.caches;
    batch = h.batch;
    blocks = subst (λ l. HasBlocksOf l i (shifted m (drew v found) (Some (Alloc class))).small
        (shifted m (drew v found) (Some (Alloc class))).caches (shifted m (drew v found) (Some (Alloc class))).batch.blocks) (sym blocks) h.blocks;
    superblocks = subst (λ l. HasSuperblocks l i (shifted m (drew v found) (Some (Alloc class))).raw
        (shifted m (drew v found) (Some (Alloc class))).split (shifted m (drew v found) (Some (Alloc class))).cutting
        (shifted m (drew v found) (Some (Alloc class))).classed (shifted m (drew v found) (Some (Alloc class))).large) (sym superblocks) h.superblocks;
    roots = subst (λ l. HasRoots l i (shifted m (drew v found) (Some (Alloc class))).roots) (sym roots) h.roots;
  }
  by_shift (Free block) h = record {
    notes = (let n = h.notes in record {
      ticket = ap Some is;
      stopped = n.stopped;
      seen_used = n.seen_used;
      seen_head = n.seen_head;
      seen_link = n.seen_link;
      seen_anchor = n.seen_anchor;
    });
    caches = h.caches;
    batch = h.batch;
    blocks = subst (λ l. HasBlocksOf l i (shifted m (drew v found) (Some (Free block))).small
        (shifted m (drew v found) (Some (Free block))).caches (shifted m (drew v found) (Some (Free block))).batch.blocks) (sym blocks) h.blocks;
    superblocks = subst (λ l. HasSuperblocks l i (shifted m (drew v found) (Some (Free block))).raw
        (shifted m (drew v found) (Some (Free block))).split (shifted m (drew v found) (Some (Free block))).cutting
        (shifted m (drew v found) (Some (Free block))).classed (shifted m (drew v found) (Some (Free block))).large) (sym superblocks) h.superblocks;
    roots = subst (λ l. HasRoots l i (shifted m (drew v found) (Some (Free block))).roots) (sym roots) h.roots;
  }
  by_shift (Lift class) h = record {
    notes = (let n = h.notes in record {
      ticket = ap Some is;
      stopped = n.stopped;
      seen_used = n.seen_used;
      seen_head = n.seen_head;
      seen_link = n.seen_link;
      seen_anchor = n.seen_anchor;
    });
    caches = h.caches;
    batch = h.batch;
    blocks = subst (λ l. HasBlocksOf l i (shifted m (drew v found) (Some (Lift class))).small
        (shifted m (drew v found) (Some (Lift class))).caches (shifted m (drew v found) (Some (Lift class))).batch.blocks) (sym blocks) h.blocks;
    superblocks = subst (λ l. HasSuperblocks l i (shifted m (drew v found) (Some (Lift class))).raw
        (shifted m (drew v found) (Some (Lift class))).split (shifted m (drew v found) (Some (Lift class))).cutting
        (shifted m (drew v found) (Some (Lift class))).classed (shifted m (drew v found) (Some (Lift class))).large) (sym superblocks) h.superblocks;
    roots = subst (λ l. HasRoots l i (shifted m (drew v found) (Some (Lift class))).roots) (sym roots) h.roots;
  }
  by_shift (Large d n) h = record {
    notes = (let n = h.notes in record {
      ticket = ap Some is;
      stopped = n.stopped;
      seen_used = n.seen_used;
      seen_head = n.seen_head;
      seen_link = n.seen_link;
      seen_anchor = n.seen_anchor;
    });
    caches = h.caches;
    batch = h.batch;
    blocks = subst (λ l. HasBlocksOf l i (shifted m (drew v found) (Some (Large d n))).small
        (shifted m (drew v found) (Some (Large d n))).caches (shifted m (drew v found) (Some (Large d n))).batch.blocks) (sym blocks) h.blocks;
    superblocks = subst (λ l. HasSuperblocks l i (shifted m (drew v found) (Some (Large d n))).raw
        (shifted m (drew v found) (Some (Large d n))).split (shifted m (drew v found) (Some (Large d n))).cutting
        (shifted m (drew v found) (Some (Large d n))).classed (shifted m (drew v found) (Some (Large d n))).large) (sym superblocks) h.superblocks;
    roots = subst (λ l. HasRoots l i (shifted m (drew v found) (Some (Large d n))).roots) (sym roots) h.roots;
  }
  by_shift (Split block) h = record {
    notes = (let n = h.notes in record {
      ticket = ap Some is;
      stopped = n.stopped;
      seen_used = n.seen_used;
      seen_head = n.seen_head;
      seen_link = n.seen_link;
      seen_anchor = n.seen_anchor;
    });
    caches = h.caches;
    batch = h.batch;
    blocks = subst (λ l. HasBlocksOf l i (shifted m (drew v found) (Some (Split block))).small
        (shifted m (drew v found) (Some (Split block))).caches (shifted m (drew v found) (Some (Split block))).batch.blocks) (sym blocks) h.blocks;
    superblocks = subst (λ l. HasSuperblocks l i (shifted m (drew v found) (Some (Split block))).raw
        (shifted m (drew v found) (Some (Split block))).split (shifted m (drew v found) (Some (Split block))).cutting
        (shifted m (drew v found) (Some (Split block))).classed (shifted m (drew v found) (Some (Split block))).large) (sym superblocks) h.superblocks;
    roots = subst (λ l. HasRoots l i (shifted m (drew v found) (Some (Split block))).roots) (sym roots) h.roots;
  }

module _ (c : CoreState) (k : Setup) (views : List View) (i : ℕ) (v : View) (t : SeatNotes) (keeps : KeepsViews c k views)
    (below : i < length views) (at : get_or views i v ≡ v)
    (at_t : IsSeatAt c i t) (shift : Shift) (may : MayShift (memory_in c k) v (Some shift)) (at_word ticket : ℕ)
    (here : at_word ≡ 2 * image_words c.geometry.capacity) (is : ticket ≡ get_or c.words.items at_word ticket) where
  kept : IsKept c i t v
  kept = keeps.each i t v below at_t at

  found : (memory_in c k).drawn ≡ ticket
  found = drawn_is c k views keeps at_word ticket here is

  budget_is : v.setup.budget ≡ c.budget
  budget_is = ap (λ (s : Setup). s.budget) (keeps.sound.good.set_up i v below at).setup ∙ keeps.budget

  pub stop_with : v.stopped ≡ None → c.budget ≤ ticket
      → Steps c (record c {
        words = with_item c.words at_word (ticket + 1);
        seats = with_item c.seats i (record t { ticket = None; stopped = Some ticket });
      }) k views i v (Tick (Some shift)) (Stopped ticket)
  stop_with going past = steps_stopped ticket (record { may = may_step (memory_in c k) v (Tick (Some shift)) going tt may; as_seen = tt })
      (ap (λ (y : View). y.stopped) at_end ∙ ap Some found)
      (stands_after c c' k views i v t t' (Tick (Some shift)) keeps below at at_t (may_step (memory_in c k) v (Tick (Some shift)) going tt may)
      (drawn_more c k views keeps at_word ticket here is) refl
      (record { capacity = refl; budget = refl; carriers = refl; blocks = refl; superblocks = refl; roots = refl })
      (subst (IsKept c' i t') (sym at_end) (record {
        notes = (let n = kept.notes in record {
          ticket = refl;
          stopped = ap Some found;
          seen_used = n.seen_used;
          seen_head = n.seen_head;
          seen_link = n.seen_link;
          seen_anchor = n.seen_anchor;
        });
        caches = kept.caches;
        batch = kept.batch;
        blocks = kept.blocks;
        superblocks = kept.superblocks;
        roots = kept.roots;
      }))
      (λ j s u other most h. record {
        notes = h.notes;
        caches = h.caches;
        batch = h.batch;
        blocks = h.blocks;
        superblocks = h.superblocks;
        roots = h.roots;
      })) where
        t' : SeatNotes
        t' = record t { ticket = None; stopped = Some ticket }

        c' : CoreState
        c' = record c { words = with_item c.words at_word (ticket + 1); seats = with_item c.seats i t' }

        at_end : seat_after (memory_in c k) v (Tick (Some shift)) ≡ stopped v (memory_in c k).drawn
        at_end = skip (nat_lt (memory_in c k).drawn v.setup.budget) (shifted (memory_in c k) (drew v (memory_in c k).drawn) (Some shift))
            (stopped v (memory_in c k).drawn) (not-lt (memory_in c k).drawn v.setup.budget (let f = found in let b = budget_is in omega arith))

  pub draw_with : v.stopped ≡ None → ticket < c.budget → (new : CoreState) → IsMoved c new views i t (shifted (memory_in c k) v (Some shift))
      → (changed : SeatNotes) → changed ≡ get_or new.seats.items i changed
      → Steps c (record new {
        words = with_item new.words at_word (ticket + 1);
        seats = with_item new.seats i (record changed { ticket = Some ticket });
      }) k views i v (Tick (Some shift)) Done
  draw_with going less new moved changed changed_is = step_done c c' k views i v t t' (Tick (Some shift)) keeps below at at_t going tt may tt
      (ap (λ (y : View). y.stopped) drawn ∙ going_on (memory_in c k) v shift (memory_in c k).drawn ∙ going)
      (ap (λ (ws : Vec ℕ Global). set ws.items at_word (ticket + 1)) moved.words ∙ (drawn_more c k views keeps at_word ticket here is))
      (ap (λ l. set l i t') moved.seats ∙ set_twice c.seats.items i moved.after t')
      (record {
        capacity = ap (λ (g : Geometry). g.capacity) moved.geometry;
        budget = moved.budget;
        carriers = moved.carriers;
        blocks = moved.blocks;
        superblocks = moved.superblocks;
        roots = moved.roots;
      })
      (subst (IsKept c' i t') (sym drawn) (kept_with new c' i changed (memory_in c k) v shift (memory_in c k).drawn ticket refl refl refl found
      (subst (λ s. IsKept new i s (shifted (memory_in c k) v (Some shift))) (sym is_after) moved.mine)))
      (λ j s u other most h. let o = moved.others j s u other most h in
      record { notes = o.notes; caches = o.caches; batch = o.batch; blocks = o.blocks; superblocks = o.superblocks; roots = o.roots }) where
        t' : SeatNotes
        t' = record changed { ticket = Some ticket }

        c' : CoreState
        c' = record new { words = with_item new.words at_word (ticket + 1); seats = with_item new.seats i t' }

        is_after : changed ≡ moved.after
        is_after = changed_is ∙ ap (λ l. get_or l i changed) moved.seats ∙ get_or-set_same c.seats.items i moved.after changed at_t.less

        drawn : seat_after (memory_in c k) v (Tick (Some shift)) ≡ shifted (memory_in c k) (drew v (memory_in c k).drawn) (Some shift)
        drawn = pick (nat_lt (memory_in c k).drawn v.setup.budget) (shifted (memory_in c k) (drew v (memory_in c k).drawn) (Some shift))
            (stopped v (memory_in c k).drawn) (lt-ltb (memory_in c k).drawn v.setup.budget (let f = found in let b = budget_is in omega arith))

-- a change leaves the words and the number of seats
pub record HasSameLengths (old new : CoreState) : Type 0 where
  pub words : length new.words.items ≡ length old.words.items
  pub seats : length new.seats.items ≡ length old.seats.items

pub same_lengths : (c new : CoreState) (i : ℕ) (change : Memory → View → View) → IsCore c → i < length c.seats.items → Moves c i change new
    → HasSameLengths c new
same_lengths c new i change core less moves =
    let below : i < length core.views = among core.keeps less in
    let here = entry_there core.views i below in let seat = entry_there c.seats.items i less in
    let moved = moves core.setup core.views here.0 seat.0 core.keeps below here.1 (seat_is less seat.1) in record {
      words = ap (λ (ws : Vec ℕ Global). length ws.items) moved.words;
      seats = ap length moved.seats ∙ length-set c.seats.items i moved.after;
    }
