-- Fresh superblocks are taken: the mark of taken superblocks goes up.
use Rattle.std.proofs.Common.{◌≡◌, ℕ, zero, suc, ◌+◌, ◌<◌, ◌≤◌, inl, inr, ◌⊎◌, Bool, true, false, cond, ◌&&◌, nat_lt, nat_le, List, get_or, set, length, Option, None, Some, refl, ap, sym, subst, ◌∙◌, length-set, lt-ltb, arith}
use Rattle.std.proofs.lemmas.Bool.{cases_lt}
use Rattle.heap_model.specs.Geometry.{image_words}
use Rattle.heap_model.specs.Words.{anchor_state, empty_state}
use Rattle.heap_model.specs.Counting.{times, total, below}
use Rattle.core_model.specs.Cells.{Cell, used_cell, info_cell, anchor_cell, link_cell, is_cell, index_of}
use Rattle.core_model.specs.Memory.{Memory, volatile_at, used, anchor, write}
use Rattle.core_model.specs.View.{Setup, View, Snapshot, known, times_own, times_raw, times_classed, times_claimed, times_large, times_block}
use Rattle.core_model.specs.Effects.{seen, seen_word, seen_of, cleared, steps, learn, learn_fresh, taken_fresh}
use Rattle.core_model.specs.Guards.{IsThere, IsOwn, MayTake}
use Rattle.core_model.specs.Sound.{tally_of, IsInShape, Knows, KnowsWords, IsBlank, times_parked, empties, Good}
use Rattle.core_model.proofs.TotalLemmas.{total_set, total_same}
use Rattle.core_model.proofs.PlaceLemmas.{known_after, cell_at_index}
use Rattle.core_model.proofs.FrameLemmas.{untouched, words_frame, below_is, below_not, times_steps}
use Rattle.heap_model.proofs.ListLemmas.{times_append}
use Rattle.core_model.proofs.EventStepLemmas.{IsSeat, seat_at, good_step, adds_step}
use Rattle.core_model.proofs.OwnLemmas.{own_grows, stale_cleared, differs_most, differs_same, won_tickets}

-- a snapshot that is still there is the old one
pub cleared_same : (from n : ℕ) (s : Option Snapshot) → IsThere (cleared from n s) → cleared from n s ≡ s
cleared_same from n None there = refl
cleared_same from n (Some s) there = by_test (nat_le from s.of && nat_lt s.of (from + n)) there where
  by_test : (test : Bool) → IsThere (cond test None (Some s)) → cond test None (Some s) ≡ Some s
  by_test true e = absurd (omega (arith, e))
  by_test false e = refl

pub length_fresh : (values : List (Option ℕ)) (u n : ℕ) → length (learn_fresh values u n) ≡ length values
length_fresh values u zero = refl
length_fresh values u (suc n) =
    length_fresh (learn (learn (learn values (index_of (info_cell u)) 0) (index_of (anchor_cell u)) 0) (index_of (link_cell u)) 0) (u + 1) n
    ∙ length-set (learn (learn values (index_of (info_cell u)) 0) (index_of (anchor_cell u)) 0) (index_of (link_cell u)) (Some 0)
    ∙ length-set (learn values (index_of (info_cell u)) 0) (index_of (anchor_cell u)) (Some 0)
    ∙ length-set values (index_of (info_cell u)) (Some 0)

-- a cell of the descriptor of a superblock between u and u + n
pub record IsFreshCell (u n : ℕ) (cell : Cell) : Type 0 where
  pub d : ℕ
  pub from : u ≤ d
  pub until : d < u + n
  pub is : (cell ≡ info_cell d) ⊎ ((cell ≡ anchor_cell d) ⊎ (cell ≡ link_cell d))

-- what is known after the words of fresh superblocks were learned
pub known_fresh : (c : ℕ) (values : List (Option ℕ)) (u n : ℕ) (cell : Cell) (value : ℕ) → length values ≡ image_words c → u + n ≤ c
    → is_cell c cell ≡ true
    → known (learn_fresh values u n) cell ≡ Some value → (IsFreshCell u n cell × (value ≡ 0)) ⊎ (known values cell ≡ Some value)
known_fresh c values u zero cell value long room is knows = inr knows
known_fresh c values u (suc n) cell value long room is knows =
    elim (known_fresh c three (u + 1) n cell value (length-set two (index_of (link_cell u)) (Some 0) ∙ long_two) (omega arith) is knows) [
      | inl later ↦ inl (
        let f = later.0 in record {
          d = f.d;
          from = (let x = f.from in omega arith);
          until = (let x = f.until in omega arith);
          is = f.is;
        },
        later.1,
      )
      | inr at_three ↦ elim (known_after c two (index_of (link_cell u)) 0 cell value long_two is at_three) [
        | inl here ↦ inl (
          record {
            d = u;
            from = omega arith;
            until = omega arith;
            is = inr (inr (here.0 ∙ cell_at_index c (link_cell u) small));
          },
          here.1,
        )
        | inr at_two ↦ elim (known_after c one (index_of (anchor_cell u)) 0 cell value (length-set values (index_of (info_cell u)) (Some 0)
            ∙ long) is at_two.1) [
              | inl here ↦ inl (
                record {
                  d = u;
                  from = omega arith;
                  until = omega arith;
                  is = inr (inl (here.0 ∙ cell_at_index c (anchor_cell u) small));
                },
                here.1,
              )
              | inr at_one ↦ elim (known_after c values (index_of (info_cell u)) 0 cell value long is at_one.1) [
                | inl here ↦ inl (
                  record {
                    d = u;
                    from = omega arith;
                    until = omega arith;
                    is = inl (here.0 ∙ cell_at_index c (info_cell u) small);
                  },
                  here.1,
                )
                | inr old ↦ inr old.1
              ]
            ]
      ]
    ] where
      one : List (Option ℕ)
      one = learn values (index_of (info_cell u)) 0

      two : List (Option ℕ)
      two = learn one (index_of (anchor_cell u)) 0

      three : List (Option ℕ)
      three = learn two (index_of (link_cell u)) 0

      long_two : length two ≡ image_words c
      long_two = length-set one (index_of (anchor_cell u)) (Some 0) ∙ length-set values (index_of (info_cell u)) (Some 0) ∙ long

      small : nat_lt u c ≡ true
      small = lt-ltb u c (omega arith)

module _ (k : Setup) (m : Memory) (views : List View) (i : ℕ) (v : View) (below_i : i < length views) (at : get_or views i v ≡ v)
    (good : Good k m views) where
  pub seat : IsSeat k m good.shape v
  seat = seat_at k m views good i v below_i at

  -- fresh superblocks are taken
  module _ (n : ℕ) (ticket : IsThere v.ticket) (may : MayTake v n) (as_seen : used m ≡ seen v.seen_used) where
    abbrev u : ℕ
    u = seen v.seen_used

    abbrev m' : Memory
    m' = write m (volatile_at used_cell) (used m + n)

    abbrev w : View
    w = taken_fresh v n

    room : u + n ≤ k.capacity
    room = subst (λ (s : Setup). u + n ≤ s.capacity) seat.set_up.setup may.room

    raw_is : (d : ℕ) → times_raw d w ≡ times_raw d v + times d (steps u 1 n)
    raw_is d = let e = times_append d v.raw (steps u 1 n) in omega arith

    tally : tally_of (set views i w) ≡ record (tally_of views) { raw = λ d. total (times_raw d) views + times d (steps u 1 n) }
    tally = λ j. record {
      raw = λ d. (let e : total (times_raw d) (set views i w) ≡ total (times_raw d) views + times d (steps u 1 n) =
          (let s = total_set (times_raw d) views i v w below_i at in let r = raw_is d in omega arith) in e) j;
      classed = λ d. (total_same (λ (x : View). times_classed d x.classed) views i v w below_i at refl) j;
      large = λ d. (total_same (λ (x : View). times_large d x.large) views i v w below_i at refl) j;
      blocks = λ b. (total_same (times_block b) views i v w below_i at refl) j;
    }

    fresh_blank : (d : ℕ) → 0 < times d (steps u 1 n) → IsBlank m d
    fresh_blank d some = let fits = room in good.shaped.untaken.blank d from (let e = times_steps d u n in
        elim (cases_lt d (u + n)) as (λ _. d < k.capacity) [
          | inl less ↦ omega arith
          | inr more ↦ absurd (let none = below_not d (u + n) more in omega arith)
        ]) where
          from : used m ≤ d
          from = elim (cases_lt d u) as (λ _. used m ≤ d) [
            | inl less ↦ absurd (let e = times_steps d u n in let a = below_is d u less in let b = below_is d (u + n) (omega arith) in omega arith)
            | inr more ↦ omega arith
          ]

    in_steps : (d : ℕ) → u ≤ d → d < u + n → 0 < times d (steps u 1 n)
    in_steps d from until = let e = times_steps d u n in let a = below_not d u from in let b = below_is d (u + n) until in omega arith

    claimed_more : (d : ℕ) → times_claimed d v ≤ times_claimed d w
    claimed_more d = let e = raw_is d in omega arith

    own_more : (cell : Cell) → times_own v cell ≤ times_own w cell
    own_more = own_grows v w refl (λ d. let e = raw_is d in omega arith) claimed_more (λ d. let e = raw_is d in omega arith)

    own_fresh : (cell : Cell) → IsFreshCell u n cell → IsOwn w cell
    own_fresh cell f = let some = in_steps f.d f.from f.until in let e = raw_is f.d in elim f.is as (λ _. 0 < times_own w cell) [
      | inl is ↦ subst (λ x. 0 < times_own w x) (sym is) (let t : 0 < times_raw f.d w = omega arith in t)
      | inr two ↦ elim two as (λ _. 0 < times_own w cell) [
        | inl is ↦ subst (λ x. 0 < times_own w x) (sym is) (let t : 0 < times_raw f.d w = omega arith in t)
        | inr is ↦ subst (λ x. 0 < times_own w x) (sym is) (let t : 0 < times_claimed f.d w = omega arith in t)
      ]
    ]

    value_fresh : (cell : Cell) → IsFreshCell u n cell → (m'.volatile cell ≡ 0) × (m'.durable cell ≡ 0)
    value_fresh cell f = let blank = fresh_blank f.d (in_steps f.d f.from f.until) in
        elim f.is as (λ _. (m'.volatile cell ≡ 0) × (m'.durable cell ≡ 0)) [
          | inl is ↦ (ap m'.volatile is ∙ blank.volatile.0, ap m'.durable is ∙ blank.durable.0)
          | inr two ↦ elim two as (λ _. (m'.volatile cell ≡ 0) × (m'.durable cell ≡ 0)) [
            | inl is ↦ (ap m'.volatile is ∙ blank.volatile.1, ap m'.durable is ∙ blank.durable.1)
            | inr is ↦ (ap m'.volatile is ∙ blank.volatile.2, ap m'.durable is ∙ blank.durable.2)
          ]
        ]

    words : KnowsWords k.capacity m' w
    words = record {
      volatile = λ cell value is knows. elim (known_fresh k.capacity v.volatile u n cell value seat.set_up.volatile room is knows) [
        | inl new ↦ (own_fresh cell new.0, (value_fresh cell new.0).0 ∙ sym new.1)
        | inr known_v ↦ let old = seat.words.volatile cell value is known_v in
            (let e = own_more cell in let o = old.0 in omega arith, untouched v m.volatile used_cell (used m + n) cell refl old.0 ∙ old.1)
      ];
      durable = λ cell value is knows. elim (known_fresh k.capacity v.durable u n cell value seat.set_up.durable room is knows) [
        | inl new ↦ (own_fresh cell new.0, (value_fresh cell new.0).1 ∙ sym new.1)
        | inr known_v ↦ let old = seat.words.durable cell value is known_v in (let e = own_more cell in let o = old.0 in omega arith, old.1)
      ];
    }

    knows : Knows k.capacity m' good.shape w
    knows = let s = seat.knows in record {
      seen_head = s.seen_head;
      seen_used = λ _. omega arith;
      looked = let l = s.looked in omega arith;
      seen_anchor = λ there. let same = cleared_same u n v.seen_anchor there in
          subst (λ (x : Option Snapshot). (0 < times_claimed (seen_of x) w) ⊎ ((v.batch.descriptor ≡ seen_of x) × (1 ≤ length v.batch.blocks)))
          (sym same)
          (elim (s.seen_anchor (subst IsThere same there)) [
            | inl claimed ↦ inl (let e = claimed_more (seen_of v.seen_anchor) in
                omega arith)
            | inr batch ↦ inr batch
          ]);
      seen_empty = λ there. let same = cleared_same u n v.seen_anchor there in
          subst (λ (x : Option Snapshot). 0 < times_classed (seen_of x) v.classed → anchor_state (seen_word x) ≡ empty_state
          → anchor_state (anchor m (seen_of x)) ≡ empty_state) (sym same)
          (s.seen_empty (subst IsThere same there));
      floor = s.floor;
    }

    pub take_fresh : Good k m' (set views i w)
    take_fresh = good_step k m m' views i v w good good.shape below_i at
        (subst (IsInShape k.capacity m' good.shape) (sym tally) (let s = good.shaped in record {
          lists = s.lists;
          placed = record {
            one_place = λ d. let old = s.placed.one_place d in let new = times_steps d u n in
                let same = ap (λ x. below d x) as_seen in let later = ap (λ x. below d (x + n)) as_seen in omega arith;
          };
          untaken = record {
            blank = λ d past below_c. let b = s.untaken.blank d (omega arith) below_c in
                record { volatile = b.volatile; durable = b.durable };
          };
          listed = s.listed;
          chained = s.chained;
          durable = let d = s.durable in let old = d.behind in let fits = room in
              record { behind = omega arith; room = omega arith; below = d.below; infos = d.infos };
        }))
        (let s = seat.set_up in record {
          set_up = record {
            setup = s.setup;
            roots = s.roots;
            small = s.small;
            caches = s.caches;
            looks = s.looks;
            volatile = length_fresh v.volatile u n ∙ s.volatile;
            durable = length_fresh v.durable u n ∙ s.durable;
          };
          claims = (let c = seat.claims in record {
            is_raw = λ d some. elim (cases_lt 0 (times d v.raw)) as (λ _. anchor_state (anchor m d) ≡ empty_state) [
              | inl old ↦ c.is_raw d old
              | inr none ↦ let fresh = (fresh_blank d (let e = times_append d v.raw (steps u 1 n) in omega arith)).volatile.1 in omega arith
            ];
            is_split = c.is_split;
            is_cutting = c.is_cutting;
            is_classed = c.is_classed;
            is_large = c.is_large;
            is_part = c.is_part;
            some = c.some;
          });
          blocks = seat.blocks;
          knows = knows;
          words = words;
          tickets = won_tickets k.budget m.drawn v w seat.tickets ticket refl refl (omega arith) refl refl refl refl refl refl refl (omega arith);
        })
        (λ j x other b a h. record {
          set_up = h.set_up;
          claims = h.claims;
          blocks = h.blocks;
          knows = (let s = h.knows in record {
            seen_head = s.seen_head;
            seen_used = λ there. let e = s.seen_used there in omega arith;
            looked = let l = s.looked in omega arith;
            seen_anchor = s.seen_anchor;
            seen_empty = s.seen_empty;
            floor = s.floor;
          });
          words = words_frame k.capacity m m' x (λ cell own. untouched x m.volatile used_cell (used m + n) cell refl own) (λ cell own. refl) h.words;
          tickets = h.tickets;
        })
        (adds_step k m m' views i v w below_i at good.adds refl refl refl refl (omega arith) (omega arith))
        (record {
          mine = (let e = stale_cleared m v w u n v.seen_anchor (λ d out. let r = raw_is d in omega arith) in
              let d = differs_same (u + n) (used m + n) (omega arith) in omega arith);
          more = omega arith;
        })
        (λ j x other b a. let e = differs_most x.seen_used (used m + n) in omega arith)
        (let old = good.moves in let gives = total_same (λ (x : View). x.gives) views i v w below_i at refl in
        let moves = total_same (λ (x : View). x.moves) views i v w below_i at refl in
        let empty = ap (λ t. empties k.capacity (anchor m) (times_parked good.shape t)) tally in omega arith)
