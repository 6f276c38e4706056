-- The stores of the core to a seat's own words.
use Rattle.std.proofs.Common.{◌≡◌, ◌≢◌, ℕ, zero, suc, ◌+◌, ◌<◌, true, false, cond, nat_eq, List, ◌∷◌, get_or, set, length, None, refl, ap, ap₂, sym, subst, ◌∙◌, length-set, arith}
use Rattle.std.specs.Vec.{with_item}
use Rattle.heap_model.specs.Counting.{times, without}
use Rattle.core_model.specs.declared.answer.StepAnswer.TheVariants.{Done, NotNow}
use Rattle.core_model.specs.declared.event.Event.TheVariants.{Store, Settle}
use Rattle.seat_state.specs.declared.notes.SeatNotes.{SeatNotes}
use Rattle.seat_state.specs.declared.notes.BatchEnds.{BatchEnds}
use Rattle.seat_state.specs.declared.superblocks.SuperblockUsage.{SuperblockUsage}
use Rattle.seat_state.specs.declared.superblocks.SuperblockUsage.TheVariants as usage
use Rattle.crash_core.specs.declared.state.CoreState.{CoreState}
use Rattle.core_model.specs.Cells.{Cell, anchor_cell, link_cell, data_cell, cell_at, is_cell, index_of}
use Rattle.core_model.specs.View.{Setup, View, times_own}
use Rattle.core_model.specs.Effects.{last_of, learn, used_up, stored, stored_anchor}
use Rattle.core_model.specs.Guards.{IsThere, IsOwn, MayStore, MayAnchor, MayChangeWord}
use Rattle.crash_core.specs.OwnWords.{IsPlain}
use Rattle.core_model.specs.Sound.{Good}
use Rattle.seat_state.specs.Notes.{HasBatch}
use Rattle.seat_state.specs.Superblocks.{usage_for, no_superblock, anchored, cutting_in, IsUsage, HasSuperblocks}
use Rattle.crash_core.specs.Standing.{IsAmong, IsSeatAt, IsKept, KeepsViews, Steps}
use Rattle.core_model.proofs.SoundLemmas.{in_table}
use Rattle.core_model.proofs.PlaceLemmas.{index_at}
use Rattle.crash_core.proofs.StandingLemmas.{step_done, step_not, may_step, memory_in, IsSameHeap}
use Rattle.seat_state.proofs.UsageLemmas.{usages_theirs, usage_alone}
use Rattle.crash_core.proofs.AnchoredSteps.{plain_may, plain_same, anchored_going, anchored_kept}

module _ (c : CoreState) (k : Setup) (views : List View) (i : ℕ) (v : View) (t : SeatNotes) (keeps : KeepsViews c k views)
    (below : i < length views) (at : get_or views i v ≡ v)
    (at_t : IsSeatAt c i t) (going : v.stopped ≡ None) where
  kept : IsKept c i t v
  kept = keeps.each i t v below at_t at

  good : Good k (memory_in c k) views
  good = keeps.sound.good

  cap : v.setup.capacity ≡ k.capacity
  cap = ap (λ (s : Setup). s.capacity) (good.set_up i v below at).setup

  -- a word that is no seat's own
  pub shared : (word value : ℕ) → ((u : View) → times_own u (cell_at c.geometry.capacity word) ≡ 0) → Steps c c k views i v (Store word value) NotNow
  shared word value none = step_not c k views i v (Store word value)
      (λ may seen. let n = none v in let own = subst (λ x. 0 < times_own v (cell_at x word)) (cap ∙ keeps.capacity) may.0 in omega arith)

  module _ (word value : ℕ) (cell : Cell) (is : cell_at c.geometry.capacity word ≡ cell) where
    abbrev base : View
    base = record (used_up v) { volatile = learn v.volatile word value }

    cell_is : cell_at v.setup.capacity word ≡ cell
    cell_is = ap (λ n. cell_at n word) (cap ∙ keeps.capacity) ∙ is

    pub not_stored : (MayStore (memory_in c k) v cell value → ⊥) → Steps c c k views i v (Store word value) NotNow
    not_stored not = step_not c k views i v (Store word value) (λ may seen. not (subst (λ x. MayStore (memory_in c k) v x value) cell_is may.1))

    own_there : IsOwn v (cell_at v.setup.capacity word) → is_cell k.capacity (cell_at v.setup.capacity word) ≡ true
    own_there own = in_table k (memory_in c k) views i v below at good (Settle word) (may_step (memory_in c k) v (Settle word) going tt own)

    own_index : IsOwn v (cell_at v.setup.capacity word) → index_of (cell_at v.setup.capacity word) ≡ word
    own_index own = index_at v.setup.capacity word (subst (λ n. is_cell n (cell_at v.setup.capacity word) ≡ true) (sym cap) (own_there own))

    store_as : (c' : CoreState) (t' : SeatNotes) → IsThere v.ticket → IsOwn v (cell_at v.setup.capacity word) → MayStore (memory_in c k) v cell value
        → c'.words.items ≡ set c.words.items word value → c'.seats.items ≡ set c.seats.items i t' → IsSameHeap c c'
        → (stored base cell value).stopped ≡ None → IsKept c' i t' (stored base cell value)
        → ((j : ℕ) (s : SeatNotes) (u : View) → j ≢ i → IsAmong views j u → IsKept c j s u → IsKept c' j s u)
        → Steps c c' k views i v (Store word value) Done
    store_as c' t' ticket own may words seats same on mine others =
        step_done c c' k views i v t t' (Store word value) keeps below at at_t going ticket
        (own, subst (λ x. MayStore (memory_in c k) v x value) (sym cell_is) may) tt
        (ap (λ (y : View). y.stopped) (ap (λ x. stored base x value) cell_is) ∙ on)
        (words ∙ ap (λ n. set c.words.items n value) (sym (own_index own))) seats same
        (subst (IsKept c' i t') (sym (ap (λ x. stored base x value) cell_is)) mine) others

    abbrev plainly : CoreState
    plainly = record c { words = with_item c.words word value; seats = with_item c.seats i (record t { ticket = None }) }

    kept_base : IsKept plainly i (record t { ticket = None }) base
    kept_base = record {
      notes = (let n = kept.notes in record {
        ticket = refl;
        stopped = n.stopped;
        seen_used = n.seen_used;
        seen_head = n.seen_head;
        seen_link = n.seen_link;
        seen_anchor = n.seen_anchor;
      });
      caches = kept.caches;
      batch = kept.batch;
      blocks = kept.blocks;
      superblocks = kept.superblocks;
      roots = kept.roots;
    }

    others_base : (j : ℕ) (s : SeatNotes) (u : View) → j ≢ i → IsAmong views j u → IsKept c j s u → IsKept plainly j s u
    others_base j s u other most h = record {
      notes = h.notes;
      caches = h.caches;
      batch = h.batch;
      blocks = h.blocks;
      superblocks = h.superblocks;
      roots = h.roots;
    }

    pub plain : IsThere v.ticket → IsOwn v (cell_at v.setup.capacity word) → IsPlain cell → Steps c plainly k views i v (Store word value) Done
    plain ticket own plain_cell = store_as plainly (record t { ticket = None }) ticket own (plain_may (memory_in c k) v cell value plain_cell) refl refl
        (record { capacity = refl; budget = refl; carriers = refl; blocks = refl; superblocks = refl; roots = refl })
        (ap (λ (y : View). y.stopped) (plain_same base cell value plain_cell) ∙ going)
        (subst (IsKept plainly i (record t { ticket = None })) (sym (plain_same base cell value plain_cell)) kept_base) others_base

  pub link : (word value d : ℕ) → cell_at c.geometry.capacity word ≡ link_cell d → IsThere v.ticket → IsOwn v (cell_at v.setup.capacity word)
      → (x : SuperblockUsage) → x ≡ usage_for i (get_or c.superblocks.items d no_superblock) → cutting_in x ≡ 0
      → Steps c (record c { words = with_item c.words word value; seats = with_item c.seats i (record t { ticket = None }) }) k views i v
      (Store word value) Done
  link word value d is ticket own x x_is none = store_as word value (link_cell d) is _ (record t { ticket = None }) ticket own
      ((kept.superblocks d).is_cutting ∙ ap cutting_in (sym x_is) ∙ none) refl refl
      (record { capacity = refl; budget = refl; carriers = refl; blocks = refl; superblocks = refl; roots = refl }) going
      (kept_base word value (link_cell d) is) (others_base word value (link_cell d) is)

  pub no_link : (word value d : ℕ) → cell_at c.geometry.capacity word ≡ link_cell d → (x : SuperblockUsage)
      → x ≡ usage_for i (get_or c.superblocks.items d no_superblock) → 0 < cutting_in x → Steps c c k views i v (Store word value) NotNow
  no_link word value d is x x_is some = not_stored word value (link_cell d) is (λ none. let o = (kept.superblocks d).is_cutting in
      let e = ap cutting_in x_is in omega arith)

  pub data_stored : (word value : ℕ) (b : BatchEnds) → cell_at c.geometry.capacity word ≡ data_cell word → IsThere v.ticket
      → IsOwn v (cell_at v.setup.capacity word) → MayChangeWord v word
      → b ≡ record t.batch { linked = cond (nat_eq word t.batch.last) false t.batch.linked }
      → Steps c (record c { words = with_item c.words word value; seats = with_item c.seats i (record t { ticket = None; batch = b }) })
      k views i v (Store word value) Done
  data_stored word value b is ticket own may b_is = store_as word value (data_cell word) is
      (record c { words = with_item c.words word value; seats = with_item c.seats i (record t { ticket = None; batch = b }) })
      (record t { ticket = None; batch = b }) ticket own may refl refl
      (record { capacity = refl; budget = refl; carriers = refl; blocks = refl; superblocks = refl; roots = refl }) going
      (record {
        notes = (let n = kept.notes in record {
          ticket = refl;
          stopped = n.stopped;
          seen_used = n.seen_used;
          seen_head = n.seen_head;
          seen_link = n.seen_link;
          seen_anchor = n.seen_anchor;
        });
        caches = kept.caches;
        batch = subst (λ g. HasBatch g (record v.batch { linked = cond (nat_eq word (last_of v.batch.blocks)) false v.batch.linked })) (sym b_is)
            (let o = kept.batch in record {
              descriptor = o.descriptor;
              class = o.class;
              first = o.first;
              last = o.last;
              count = o.count;
              linked = ap₂ (λ n l. cond (nat_eq word n) false l) o.last o.linked;
            });
        blocks = kept.blocks;
        superblocks = kept.superblocks;
        roots = kept.roots;
      })
      (λ j s u other most h. record {
        notes = h.notes;
        caches = h.caches;
        batch = h.batch;
        blocks = h.blocks;
        superblocks = h.superblocks;
        roots = h.roots;
      })

  pub anchor_stored : (word value d : ℕ) (x : SuperblockUsage) → cell_at c.geometry.capacity word ≡ anchor_cell d → d < c.geometry.capacity
      → IsThere v.ticket → IsOwn v (cell_at v.setup.capacity word) → MayAnchor (memory_in c k) v d value → x ≡ anchored value
      → Steps c (record c {
        words = with_item c.words word value;
        superblocks = with_item c.superblocks d (record { seat = i; usage = x });
        seats = with_item c.seats i (record t { ticket = None });
      }) k views i v (Store word value) Done
  anchor_stored word value d x is less ticket own may x_is = store_as word value (anchor_cell d) is c'
      (record t { ticket = None }) ticket own may refl refl
      (record {
        capacity = refl;
        budget = refl;
        carriers = refl;
        blocks = refl;
        superblocks = length-set c.superblocks.items d (record { seat = i; usage = x });
        roots = refl;
      })
      (anchored_going (base word value (anchor_cell d) is) d value ∙ going) (mine value x_is)
      (λ j s u other most h. record {
        notes = h.notes;
        caches = h.caches;
        batch = h.batch;
        blocks = h.blocks;
        superblocks = usages_theirs c.superblocks.items i j d x (λ e y. IsUsage e y u.raw u.split u.cutting u.classed u.large) long other
            (usage_alone i j (get_or c.superblocks.items d no_superblock) other mine_usage) h.superblocks;
        roots = h.roots;
      }) where
        c' : CoreState
        c' = record c {
          words = with_item c.words word value;
          superblocks = with_item c.superblocks d (record { seat = i; usage = x });
          seats = with_item c.seats i (record t { ticket = None });
        }

        long : d < length c.superblocks.items
        long = let n = keeps.superblocks in let g = keeps.capacity in omega arith

        has_raw : 0 < times d v.raw + times d v.split + times d v.cutting
        has_raw = subst (λ y. 0 < times_own v y) (ap (λ n. cell_at n word) (cap ∙ keeps.capacity) ∙ is) own

        mine_usage : usage_for i (get_or c.superblocks.items d no_superblock) ≡ usage.Nothing → ⊥
        mine_usage none = let o = subst (λ y. IsUsage d y v.raw v.split v.cutting v.classed v.large) none (kept.superblocks d) in
            let p = o.is_raw in let q = o.is_split in let r = o.is_cutting in let h = has_raw in absurd (omega arith)

        mine : (n : ℕ) → x ≡ anchored n → IsKept c' i (record t { ticket = None }) (stored_anchor (base word value (anchor_cell d) is) d n)
        mine zero e = record {
          notes = (let n = kept.notes in record {
            ticket = refl;
            stopped = n.stopped;
            seen_used = n.seen_used;
            seen_head = n.seen_head;
            seen_link = n.seen_link;
            seen_anchor = n.seen_anchor;
          });
          caches = kept.caches;
          batch = kept.batch;
          blocks = kept.blocks;
          superblocks = subst (λ y. HasSuperblocks (set c.superblocks.items d (record { seat = i; usage = y })) i (d ∷ without d v.raw)
              (without d v.split) (without d v.cutting) v.classed v.large) (sym e)
              (anchored_kept c.superblocks.items i d zero v.raw v.split v.cutting v.classed v.large
              (base word value (anchor_cell d) is) refl refl refl refl refl long has_raw kept.superblocks);
          roots = kept.roots;
        }
        mine (suc m) e = record {
          notes = (let n = kept.notes in record {
            ticket = refl;
            stopped = n.stopped;
            seen_used = n.seen_used;
            seen_head = n.seen_head;
            seen_link = n.seen_link;
            seen_anchor = n.seen_anchor;
          });
          caches = kept.caches;
          batch = kept.batch;
          blocks = kept.blocks;
          superblocks = subst (λ y. HasSuperblocks (set c.superblocks.items d (record { seat = i; usage = y })) i (without d v.raw)
              (without d v.split) (d ∷ without d v.cutting) v.classed v.large) (sym e)
              (anchored_kept c.superblocks.items i d (suc m) v.raw v.split v.cutting v.classed v.large
              (base word value (anchor_cell d) is) refl refl refl refl refl long has_raw kept.superblocks);
          roots = kept.roots;
        }
