-- Steps on own words that change no volatile value: a load, and a settling.
use Rattle.std.proofs.Common.{◌≡◌, ℕ, ◌+◌, ◌<◌, ◌≤◌, inl, inr, true, cond, nat_lt, List, get_or, set, length, Option, Some, refl, ap, sym, subst, ◌∙◌, length-set, arith}
use Rattle.heap_model.specs.Geometry.{image_words}
use Rattle.core_model.specs.Cells.{Cell, used_cell, info_cell, anchor_cell, link_cell, is_cell, cell_at}
use Rattle.core_model.specs.Memory.{Memory, durable_at, used, durable_used, anchor, write, with_cell}
use Rattle.core_model.specs.View.{Setup, View, known, times_own, times_raw, times_classed, times_claimed}
use Rattle.core_model.specs.Effects.{learn, used_up}
use Rattle.core_model.specs.Guards.{IsThere, IsOwn}
use Rattle.core_model.specs.Sound.{tally_of, IsInShape, times_cut, times_parked, empties, Good}
use Rattle.core_model.proofs.TotalLemmas.{total_same, total_at}
use Rattle.core_model.proofs.MemoryLemmas.{same-refl}
use Rattle.core_model.proofs.PlaceLemmas.{known_after}
use Rattle.core_model.proofs.FrameLemmas.{with_other, untouched, words_frame, below_not}
use Rattle.core_model.proofs.EventStepLemmas.{IsSeat, seat_at, good_step, adds_step, tally_same}
use Rattle.core_model.proofs.QuietLemmas.{quiet, done_tickets, own_same}
use Rattle.heap_model.proofs.ListLemmas.{one_at_most}
use Rattle.core_model.proofs.OwnerLemmas.{one_owner}

-- a cell that was written has the value
pub with_same : (f : Cell → ℕ) (at : Cell) (x : ℕ) (cell : Cell) → cell ≡ at → with_cell f at x cell ≡ x
with_same f at x cell same = ap (with_cell f at x) same ∙ ap (λ t. cond t x (f at)) (same-refl at)

-- what is learned of a word that is the seat's own, where the value is right
pub learned : (c word x : ℕ) (values : List (Option ℕ)) (f g : Cell → ℕ) (v : View) → length values ≡ image_words c → IsOwn v (cell_at c word)
    → g (cell_at c word) ≡ x
    → ((cell : Cell) → IsOwn v cell → (cell ≡ cell_at c word → ⊥) → g cell ≡ f cell)
    → ((cell : Cell) (value : ℕ) → is_cell c cell ≡ true → known values cell ≡ Some value → IsOwn v cell × (f cell ≡ value))
    → (cell : Cell) (value : ℕ) → is_cell c cell ≡ true → known (learn values word x) cell ≡ Some value → IsOwn v cell × (g cell ≡ value)
learned c word x values f g v long own here others old cell value is knows = elim (known_after c values word x cell value long is knows) [
  | inl new ↦ (subst (IsOwn v) (sym new.0) own, ap g new.0 ∙ here ∙ sym new.1)
  | inr was ↦ let o = old cell value is was.1 in (o.0, others cell o.0 was.0 ∙ o.1)
]

module _ (k : Setup) (m : Memory) (views : List View) (i : ℕ) (v : View) (below_i : i < length views) (at : get_or views i v ≡ v)
    (good : Good k m views) (word : ℕ) (own : IsOwn v (cell_at v.setup.capacity word)) where
  seat : IsSeat k m good.shape v
  seat = seat_at k m views good i v below_i at

  cap : v.setup.capacity ≡ k.capacity
  cap = ap (λ (s : Setup). s.capacity) seat.set_up.setup

  abbrev cell : Cell
  cell = cell_at v.setup.capacity word

  same_cells : cell_at k.capacity word ≡ cell
  same_cells = ap (λ c. cell_at c word) (sym cap)

  own_k : IsOwn v (cell_at k.capacity word)
  own_k = subst (IsOwn v) (sym same_cells) own

  -- a load
  pub load : IsThere v.ticket → Good k m (set views i (record (used_up v) { volatile = learn v.volatile word (m.volatile cell) }))
  load ticket = quiet k m views i v w below_i at good refl refl
      (let s = seat.set_up in record {
        setup = s.setup;
        roots = s.roots;
        small = s.small;
        caches = s.caches;
        looks = s.looks;
        volatile = length-set v.volatile word (Some (m.volatile cell)) ∙ s.volatile;
        durable = s.durable;
      })
      (let s = seat.knows in record {
        seen_head = s.seen_head;
        seen_used = s.seen_used;
        looked = s.looked;
        seen_anchor = s.seen_anchor;
        seen_empty = s.seen_empty;
        floor = s.floor;
      })
      (record {
        volatile = λ x value is knows. let r = learned k.capacity word
            (m.volatile cell) v.volatile m.volatile m.volatile v seat.set_up.volatile own_k (ap m.volatile same_cells)
            (λ _ _ _. refl) seat.words.volatile x value is knows in
            (subst (λ n. 0 < n) (sym (own_same v w refl x)) r.0, r.1);
        durable = λ x value is knows. let r = seat.words.durable x value is knows in (subst (λ n. 0 < n) (sym (own_same v w refl x)) r.0, r.1);
      })
      (done_tickets k m views i v below_i at good ticket w refl refl refl refl refl refl (omega arith))
      (omega arith) (omega arith) where
        w : View
        w = record (used_up v) { volatile = learn v.volatile word (m.volatile cell) }

  -- what a seat may record of an own word at any time
  pub learns : Good k m (set views i (record v { volatile = learn v.volatile word (m.volatile cell) }))
  learns = quiet k m views i v w below_i at good refl refl
      (let s = seat.set_up in record {
        setup = s.setup;
        roots = s.roots;
        small = s.small;
        caches = s.caches;
        looks = s.looks;
        volatile = length-set v.volatile word (Some (m.volatile cell)) ∙ s.volatile;
        durable = s.durable;
      })
      (let s = seat.knows in record {
        seen_head = s.seen_head;
        seen_used = s.seen_used;
        looked = s.looked;
        seen_anchor = s.seen_anchor;
        seen_empty = s.seen_empty;
        floor = s.floor;
      })
      (record {
        volatile = λ x value is knows. let r = learned k.capacity word
            (m.volatile cell) v.volatile m.volatile m.volatile v seat.set_up.volatile own_k (ap m.volatile same_cells)
            (λ _ _ _. refl) seat.words.volatile x value is knows in
            (subst (λ n. 0 < n) (sym (own_same v w refl x)) r.0, r.1);
        durable = λ x value is knows. let r = seat.words.durable x value is knows in (subst (λ n. 0 < n) (sym (own_same v w refl x)) r.0, r.1);
      })
      (let t = seat.tickets in record {
        ticket = t.ticket;
        last = t.last;
        used_look = t.used_look;
        head_looks = t.head_looks;
        counts = t.counts;
        state = t.state;
        looked_then = t.looked_then;
        gives = t.gives;
        cuts = t.cuts;
      })
      (omega arith) (omega arith) where
        w : View
        w = record v { volatile = learn v.volatile word (m.volatile cell) }

  -- an own cell is none of the shared ones, nor of a superblock that was never taken
  taken_cell : (d : ℕ) → used m ≤ d → (0 < times_claimed d v → ⊥)
  taken_cell d past some =
      let raw = total_at (times_raw d) views i v below_i at in let classed = total_at (λ (x : View). times_classed d x.classed) views i v below_i at in
      let p = good.shaped.placed.one_place d in let none = below_not d (used m) past in omega arith

  not_used : used_cell ≡ cell → ⊥
  not_used same = let e = ap (times_own v) same in omega (arith, own, e)

  not_info : (d : ℕ) → times_raw d v ≡ 0 → info_cell d ≡ cell → ⊥
  not_info d none same = let e = ap (times_own v) same in omega (arith, own, e)

  raw_alone : (d : ℕ) → 0 < times_cut good.shape (tally_of views) d + (tally_of views).large d → times_raw d v ≡ 0
  raw_alone d some = let raw = total_at (times_raw d) views i v below_i at in let p = good.shaped.placed.one_place d in
      let most = one_at_most (nat_lt d (used m)) in omega arith

  -- a settling
  abbrev x : ℕ
  x = m.volatile cell

  abbrev m' : Memory
  m' = write m (durable_at cell) x

  abbrev settled : View
  settled = record v { volatile = learn v.volatile word x; durable = learn v.durable word x }

  mark_same : durable_used m' ≡ durable_used m
  mark_same = with_other m.durable cell x used_cell not_used

  pub settle : Good k m' (set views i settled)
  settle = good_step k m m' views i v settled good good.shape below_i at
      (subst (IsInShape k.capacity m' good.shape) (sym tally) (let s = good.shaped in record {
        lists = s.lists;
        placed = s.placed;
        untaken = record {
          blank = λ d past below_c. let b = s.untaken.blank d past below_c in let none = taken_cell d past in record {
            volatile = b.volatile;
            durable = (
              with_other m.durable cell x (info_cell d) (λ same. none (let e = ap (times_own v) same in omega (arith, own, e))) ∙ b.durable.0,
              with_other m.durable cell x (anchor_cell d) (λ same. none (let e = ap (times_own v) same in omega (arith, own, e))) ∙ b.durable.1,
              with_other m.durable cell x (link_cell d) (λ same. none (let e = ap (times_own v) same in omega (arith, own, e))) ∙ b.durable.2,
            );
          };
        };
        listed = s.listed;
        chained = s.chained;
        durable = (let y = s.durable in let mark = mark_same in record {
          behind = (let b = y.behind in omega arith);
          room = y.room;
          below = λ e some. let l = y.below e some in omega arith;
          infos = λ e some. with_other m.durable cell x (info_cell e) (not_info e (raw_alone e some)) ∙ y.infos e some;
        });
      }))
      (let s = seat.set_up in record {
        set_up = record {
          setup = s.setup;
          roots = s.roots;
          small = s.small;
          caches = s.caches;
          looks = s.looks;
          volatile = length-set v.volatile word (Some x) ∙ s.volatile;
          durable = length-set v.durable word (Some x) ∙ s.durable;
        };
        claims = seat.claims;
        blocks = seat.blocks;
        knows = (let n = seat.knows in record {
          seen_head = n.seen_head;
          seen_used = n.seen_used;
          looked = n.looked;
          seen_anchor = n.seen_anchor;
          seen_empty = n.seen_empty;
          floor = (let f = n.floor in let mark = mark_same in omega arith);
        });
        words = record {
          volatile = λ y value is knows. let r = learned k.capacity word x v.volatile m.volatile m.volatile v seat.set_up.volatile own_k
              (ap m.volatile same_cells) (λ _ _ _. refl) seat.words.volatile y value is knows in
              (subst (λ n. 0 < n) (sym (own_same v settled refl y)) r.0, r.1);
          durable = λ y value is knows. let r = learned k.capacity word x v.durable m.durable m'.durable v seat.set_up.durable own_k
              (with_same m.durable cell x (cell_at k.capacity word) same_cells)
              (λ z own_z other. with_other m.durable cell x z (λ same. other (same ∙ sym same_cells))) seat.words.durable y value is knows in
              (subst (λ n. 0 < n) (sym (own_same v settled refl y)) r.0, r.1);
        };
        tickets = (let t = seat.tickets in record {
          ticket = t.ticket;
          last = t.last;
          used_look = t.used_look;
          head_looks = t.head_looks;
          counts = t.counts;
          state = t.state;
          looked_then = t.looked_then;
          gives = t.gives;
          cuts = t.cuts;
        });
      })
      (λ j u other b a h. record {
        set_up = h.set_up;
        claims = h.claims;
        blocks = h.blocks;
        knows = (let n = h.knows in record {
          seen_head = n.seen_head;
          seen_used = n.seen_used;
          looked = n.looked;
          seen_anchor = n.seen_anchor;
          seen_empty = n.seen_empty;
          floor = (let f = n.floor in let mark = mark_same in omega arith);
        });
        words = words_frame k.capacity m m' u (λ y own_y. refl) (λ y own_y. untouched u m.durable cell x y
            (one_owner k m views good i j v u other below_i at b a cell own) own_y) h.words;
        tickets = h.tickets;
      })
      (adds_step k m m' views i v settled below_i at good.adds refl refl refl refl (omega arith) (omega arith))
      (record { mine = omega arith; more = omega arith })
      (λ j u other b a. omega arith)
      (let old = good.moves in let gives = total_same (λ (u : View). u.gives) views i v settled below_i at refl in
      let moves = total_same (λ (u : View). u.moves) views i v settled below_i at refl in
      let empty = ap (λ t. empties k.capacity (anchor m) (times_parked good.shape t)) tally in omega arith) where
        tally : tally_of (set views i settled) ≡ tally_of views
        tally = tally_same views i v settled below_i at refl
