-- A store to an own root or link, and what is so of each store.
use Rattle.std.proofs.Common.{◌≡◌, ◌≢◌, ℕ, ◌+◌, ◌<◌, ◌≤◌, inl, inr, cond, nat_eq, nat_lt, List, get_or, set, length, Option, Some, refl, ap, sym, subst, ◌∙◌, length-set, arith}
use Rattle.std.proofs.lemmas.Bool.{cases_eq, cases_lt}
use Rattle.heap_model.specs.Geometry.{lists}
use Rattle.heap_model.specs.Words.{head_first}
use Rattle.heap_model.specs.Counting.{times, total}
use Rattle.core_model.specs.Cells.{Cell, link_cell, root_cell, cell_at}
use Rattle.core_model.specs.Memory.{Memory, volatile_at, used, head, anchor, link, write}
use Rattle.core_model.specs.View.{Setup, View, known, times_own, times_raw, times_classed, times_claimed}
use Rattle.core_model.specs.Effects.{before, seen_word, seen_of, learn, used_up}
use Rattle.core_model.specs.Guards.{IsThere, IsOwn}
use Rattle.core_model.specs.Sound.{tally_of, IsInShape, IsSetUp, KnowsHead, KnowsWords, times_in_lists, times_parked, times_cut, empties, Good}
use Rattle.core_model.proofs.TotalLemmas.{total_same, total_at}
use Rattle.core_model.proofs.FrameLemmas.{with_other, untouched, words_frame, below_not}
use Rattle.core_model.proofs.EventStepLemmas.{IsSeat, seat_at, good_step, adds_step, tally_same}
use Rattle.core_model.proofs.QuietLemmas.{done_tickets}
use Rattle.core_model.proofs.OwnLemmas.{own_equal}
use Rattle.heap_model.proofs.ListLemmas.{one_at_most}
use Rattle.core_model.proofs.ListLemmas.{in_lists_at}
use Rattle.core_model.proofs.BlockLemmas.{at_other}
use Rattle.core_model.proofs.OwnerLemmas.{one_owner}
use Rattle.core_model.proofs.LinkFrameLemmas.{follows_frame}
use Rattle.core_model.proofs.OwnStepLemmas.{with_same, learned}

module _ (k : Setup) (m : Memory) (views : List View) (i : ℕ) (v : View) (below_i : i < length views) (at : get_or views i v ≡ v)
    (good : Good k m views) (ticket : IsThere v.ticket) (word value : ℕ) where
  pub seat : IsSeat k m good.shape v
  seat = seat_at k m views good i v below_i at

  pub cap : v.setup.capacity ≡ k.capacity
  cap = ap (λ (s : Setup). s.capacity) seat.set_up.setup

  abbrev pub base : View
  base = record (used_up v) { volatile = learn v.volatile word value }

  -- a superblock of the seat's hand is nowhere else
  pub claimed_alone : (d : ℕ) → 0 < times_claimed d v → (times d (good.shape.lists 0) ≡ 0) × (times_in_lists good.shape d ≡ 0)
      × (good.shape.full d ≡ 0) × ((tally_of views).large d ≡ 0) × (d < used m)
  claimed_alone d some =
      let raw = total_at (times_raw d) views i v below_i at in let classed = total_at (λ (x : View). times_classed d x.classed) views i v below_i at in
      let p = good.shaped.placed.one_place d in let most = one_at_most (nat_lt d (used m)) in (
        omega arith,
        omega arith,
        omega arith,
        omega arith,
        elim (cases_lt d (used m)) as
            (λ _. d < used m) [ inl less ↦ less | inr more ↦ absurd (let n = below_not d (used m) more in omega arith) ],
      )

  pub raw_alone : (d : ℕ) → 0 < times_raw d v → (times_cut good.shape (tally_of views) d ≡ 0) × ((tally_of views).raw d ≡ 1)
  raw_alone d some = let raw = total_at (times_raw d) views i v below_i at in let p = good.shaped.placed.one_place d in
      let most = one_at_most (nat_lt d (used m)) in (omega arith, omega arith)

  pub set_up_now : IsSetUp k base
  set_up_now = let s = seat.set_up in record {
    setup = s.setup;
    roots = s.roots;
    small = s.small;
    caches = s.caches;
    looks = s.looks;
    volatile = length-set v.volatile word (Some value) ∙ s.volatile;
    durable = s.durable;
  }

  module _ (cell : Cell) (is : cell_at v.setup.capacity word ≡ cell) (own : IsOwn v cell) where
    abbrev pub m' : Memory
    m' = write m (volatile_at cell) value

    -- what the seats know of words
    pub words_now : (w : View) → w.volatile ≡ base.volatile → w.durable ≡ v.durable → ((x : Cell) → times_own w x ≡ times_own v x)
        → KnowsWords k.capacity m' w
    words_now w volatile durable same = record {
      volatile = λ x n is_x knows. let r = learned k.capacity word value v.volatile m.volatile m'.volatile v seat.set_up.volatile
          (subst (IsOwn v) (sym here) own) (with_same m.volatile cell value (cell_at k.capacity word) here)
          (λ y own_y other. with_other m.volatile cell value y (λ z. other (z ∙ sym here))) seat.words.volatile x n is_x
          (ap (λ values. known values x) (sym volatile) ∙ knows) in
          (subst (λ q. 0 < q) (sym (same x)) r.0, r.1);
      durable = λ x n is_x knows. let r = seat.words.durable x n is_x (ap (λ values. known values x) (sym durable) ∙ knows) in
          (subst (λ q. 0 < q) (sym (same x)) r.0, r.1);
    } where
      here : cell_at k.capacity word ≡ cell
      here = ap (λ c. cell_at c word) (sym cap) ∙ is

    pub words_others : (j : ℕ) (u : View) → j ≢ i → j < length views → get_or views j u ≡ u → KnowsWords k.capacity m u → KnowsWords k.capacity m' u
    words_others j u other b a h = words_frame k.capacity m m' u (λ y own_y. untouched u m.volatile cell value y
        (one_owner k m views good i j v u other below_i at b a cell own) own_y) (λ y own_y. refl) h

  -- to a root
  pub store_root : (n : ℕ) → cell_at v.setup.capacity word ≡ root_cell n → IsOwn v (root_cell n)
      → Good k (write m (volatile_at (root_cell n)) value) (set views i base)
  store_root n is own = good_step k m m2 views i v base good good.shape below_i at
      (subst (IsInShape k.capacity m2 good.shape) (sym tally) (let s = good.shaped in record {
        lists = s.lists;
        placed = s.placed;
        untaken = record { blank = λ e past below_c. let b = s.untaken.blank e past below_c in record { volatile = b.volatile; durable = b.durable } };
        listed = s.listed;
        chained = s.chained;
        durable = s.durable;
      }))
      (record {
        set_up = set_up_now;
        claims = seat.claims;
        blocks = seat.blocks;
        knows = (let s = seat.knows in record {
          seen_head = s.seen_head;
          seen_used = s.seen_used;
          looked = s.looked;
          seen_anchor = s.seen_anchor;
          seen_empty = s.seen_empty;
          floor = s.floor;
        });
        words = words_now (root_cell n) is own base refl refl (own_equal v base refl (λ d. refl) (λ d. refl) (λ d. refl));
        tickets = done_tickets k m views i v below_i at good ticket base refl refl refl refl refl refl (omega arith);
      })
      (λ j u other b a h. record {
        set_up = h.set_up;
        claims = h.claims;
        blocks = h.blocks;
        knows = (let s = h.knows in record {
          seen_head = s.seen_head;
          seen_used = s.seen_used;
          looked = s.looked;
          seen_anchor = s.seen_anchor;
          seen_empty = s.seen_empty;
          floor = s.floor;
        });
        words = words_others (root_cell n) is own j u other b a h.words;
        tickets = h.tickets;
      })
      (adds_step k m m2 views i v base below_i at good.adds refl refl refl refl (omega arith) (omega arith))
      (record { mine = omega arith; more = omega arith }) (λ j u other b a. omega arith) moves_same where
        m2 : Memory
        m2 = write m (volatile_at (root_cell n)) value

        tally : tally_of (set views i base) ≡ tally_of views
        tally = tally_same views i v base below_i at refl

        moves_same : empties k.capacity (anchor m) (times_parked good.shape (tally_of (set views i base))) + total (λ (u : View). u.moves)
            (set views i base) ≤ total (λ (u : View). u.gives) (set views i base) + k.capacity
        moves_same = let old = good.moves in let gives = total_same (λ (u : View). u.gives) views i v base below_i at refl in
            let moves = total_same (λ (u : View). u.moves) views i v base below_i at refl in
            let empty = ap (λ t. empties k.capacity (anchor m) (times_parked good.shape t)) tally in omega arith

  -- to the link of a claimed descriptor
  pub store_link : (d : ℕ) → cell_at v.setup.capacity word ≡ link_cell d → IsOwn v (link_cell d)
      → Good k (write m (volatile_at (link_cell d)) value) (set views i base)
  store_link d is own = good_step k m m2 views i v base good good.shape below_i at
      (subst (IsInShape k.capacity m2 good.shape) (sym tally) (let s = good.shaped in record {
        lists = record {
          follows = λ n less. follows_frame (link m) k.capacity d value (head_first (head m n)) (good.shape.lists n)
              (not_listed n less) (s.lists.follows n less);
        };
        placed = s.placed;
        untaken = record {
          blank = λ e past below_c. let b = s.untaken.blank e past below_c in
              record {
                volatile = (
                  b.volatile.0,
                  b.volatile.1,
                  at_other (link m) d value e (λ same. let less = (claimed_alone d own).4 in
                      omega (arith, same)) ∙ b.volatile.2,
                );
                durable = b.durable;
              };
        };
        listed = s.listed;
        chained = s.chained;
        durable = s.durable;
      }))
      (record {
        set_up = set_up_now;
        claims = seat.claims;
        blocks = seat.blocks;
        knows = (let s = seat.knows in record {
          seen_head = λ there. head_frame (seen_of v.seen_head) (seen_word v.seen_head) v.seen_link
              (s.seen_head there);
          seen_used = s.seen_used;
          looked = s.looked;
          seen_anchor = s.seen_anchor;
          seen_empty = s.seen_empty;
          floor = s.floor;
        });
        words = words_now (link_cell d) is own base refl refl (own_equal v base refl (λ e. refl) (λ e. refl) (λ e. refl));
        tickets = done_tickets k m views i v below_i at good ticket base refl refl refl refl refl refl (omega arith);
      })
      (λ j u other b a h. record {
        set_up = h.set_up;
        claims = h.claims;
        blocks = h.blocks;
        knows = (let s = h.knows in record {
          seen_head = λ there. head_frame (seen_of u.seen_head) (seen_word u.seen_head) u.seen_link
              (s.seen_head there);
          seen_used = s.seen_used;
          looked = s.looked;
          seen_anchor = s.seen_anchor;
          seen_empty = s.seen_empty;
          floor = s.floor;
        });
        words = words_others (link_cell d) is own j u other b a h.words;
        tickets = h.tickets;
      })
      (adds_step k m m2 views i v base below_i at good.adds refl refl refl refl (omega arith) (omega arith))
      (record { mine = omega arith; more = omega arith }) (λ j u other b a. omega arith)
      (let old = good.moves in let gives = total_same (λ (u : View). u.gives) views i v base below_i at refl in
      let moves = total_same (λ (u : View). u.moves) views i v base below_i at refl in
      let empty = ap (λ t. empties k.capacity (anchor m) (times_parked good.shape t)) tally in omega arith) where
        m2 : Memory
        m2 = write m (volatile_at (link_cell d)) value

        tally : tally_of (set views i base) ≡ tally_of views
        tally = tally_same views i v base below_i at refl

        not_listed : (n : ℕ) → n < lists → times d (good.shape.lists n) ≡ 0
        not_listed n less = let alone = claimed_alone d own in elim (cases_eq n 0) [
          | inl free ↦ ap (λ x. times d (good.shape.lists x)) free ∙ alone.0
          | inr class ↦ let in_it = in_lists_at d good.shape.lists n less class in let none = alone.1 in omega arith
        ]

        head_frame : (list w : ℕ) (following : Option ℕ) → KnowsHead k.capacity (head m) (link m) good.shape.lists list w following
            → KnowsHead k.capacity (head m) (λ e. cond (nat_eq e d) value (link m e)) good.shape.lists list w following
        head_frame list w following h = record {
          is_list = h.is_list;
          small = h.small;
          pops = h.pops;
          listed = h.listed;
          linked = λ there. let old = h.linked there in (
            old.0,
            λ same. at_other (link m) d value (before (head_first w))
                (λ it. let in_list = h.listed same old.0 in let none = not_listed list h.is_list in
                let e = ap (λ x. times x (good.shape.lists list)) it in omega arith) ∙ old.1 same,
          );
        }
