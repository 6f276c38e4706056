-- A split of a large block keeps memory and seats fitting together.
use Rattle.std.proofs.Common.{◌≡◌, ◌≢◌, ℕ, ◌+◌, ◌-◌, ◌<◌, ◌≤◌, inl, inr, nat_lt, List, get_or, set, length, refl, ap, sym, subst, arith}
use Rattle.std.proofs.lemmas.Bool.{cases_eq, cases_lt}
use Rattle.heap_model.specs.Geometry.{superblock_of}
use Rattle.heap_model.specs.Words.{anchor_state, partial_state, large_info}
use Rattle.heap_model.specs.Counting.{times, total}
use Rattle.core_model.specs.Memory.{Memory, used, durable_used, anchor, info}
use Rattle.core_model.specs.View.{Setup, View, times_raw, times_classed, times_large, times_block}
use Rattle.core_model.specs.Effects.{steps, cleared, span_count, without_span}
use Rattle.core_model.specs.ViewAfter.{after_split}
use Rattle.core_model.specs.Guards.{MaySplit}
use Rattle.core_model.specs.Sound.{CoreShape, tally_of, IsInShape, Knows, times_parked, empties, Good}
use Rattle.core_model.proofs.TotalLemmas.{total_set, total_same, total_at}
use Rattle.heap_model.proofs.ListLemmas.{times_append, one_at_most}
use Rattle.core_model.proofs.EventStepLemmas.{IsSeat}
use Rattle.core_model.proofs.OwnLemmas.{own_grows, words_grow}
use Rattle.core_model.proofs.LinkFrameLemmas.{span_covers}
use Rattle.core_model.proofs.ShiftLemmas.{shift_step}
use Rattle.core_model.proofs.RangeLemmas.{in_range, range_is, times_range, span_member, without_span_is, span_other}
use Rattle.core_model.proofs.SpanLemmas

module _ (k : Setup) (m : Memory) (views : List View) (i : ℕ) (v : View) (below_i : i < length views) (at : get_or views i v ≡ v)
    (good : Good k m views) where
  abbrev seat : IsSeat k m good.shape v
  seat = SpanLemmas.seat k m views i v below_i at good

  abbrev knows_after : (from n : ℕ) (w : View) (g : CoreShape) → g.lists ≡ good.shape.lists → w.seen_head ≡ v.seen_head → w.seen_link ≡ v.seen_link
      → w.seen_used ≡ v.seen_used → w.used_look ≡ v.used_look → w.taken ≡ v.taken → w.batch ≡ v.batch
      → w.seen_anchor ≡ cleared from n v.seen_anchor → w.classed ≡ v.classed
      → ((e : ℕ) → (from ≤ e → e < from + n → ⊥) → times_raw e v ≤ times_raw e w) → w.floor ≤ durable_used m → Knows k.capacity m g w
  knows_after = SpanLemmas.knows_after k m views i v below_i at good

  -- a large block is split
  pub split_large : (block : ℕ) → MaySplit v block → Good k m (set views i (after_split v (superblock_of v.setup.capacity block)))
  split_large block may = shift_step k m views i v below_i at good w good.shape refl
      (subst (IsInShape k.capacity m good.shape) (sym tally) (let s = good.shaped in record {
        lists = s.lists;
        placed = record { one_place = λ e. let old = s.placed.one_place e in let l = large_are e in omega arith };
        untaken = s.untaken;
        listed = s.listed;
        chained = s.chained;
        durable = (let y = s.durable in record {
          behind = y.behind;
          room = y.room;
          below = λ e some. y.below e (let l = large_are e in omega arith);
          infos = λ e some. y.infos e (let l = large_are e in omega arith);
        });
      }))
      (let s = seat.set_up in record {
        set_up = record {
          setup = s.setup;
          roots = s.roots;
          small = s.small;
          caches = s.caches;
          looks = s.looks;
          volatile = s.volatile;
          durable = s.durable;
        };
        claims = (let c = seat.claims in record {
          is_raw = c.is_raw;
          is_split = λ e some. elim (cases_lt 0 (times e v.split)) as (λ _. anchor_state (anchor m e) ≢ partial_state) [
            | inl old ↦ c.is_split e old
            | inr none ↦ c.is_part e (let a = times_append e v.split (steps d 1 n) in let t = times_range e d n in let l = large_is e in omega arith)
          ];
          is_cutting = c.is_cutting;
          is_classed = c.is_classed;
          is_large = is_large;
          is_part = λ e some. c.is_part e (let l = large_is e in omega arith);
          some = λ x p. c.some x (span_member d v.large x p);
        });
        blocks = seat.blocks;
        knows = knows_after d n w good.shape refl refl refl refl refl refl refl refl refl (λ e out. let z = raw_is e in omega arith) floor;
        words = words_grow k.capacity m v w refl refl (own_grows v w refl (λ e. let z = raw_is e in omega arith) (λ e. let z = raw_is e in
            omega arith) (λ e. let z = raw_is e in let l = large_is e in omega arith)) seat.words;
        tickets = (let t = seat.tickets in record {
          ticket = t.ticket;
          last = t.last;
          used_look = t.used_look;
          head_looks = t.head_looks;
          counts = t.counts;
          state = t.state;
          looked_then = t.looked_then;
          gives = t.gives;
          cuts = t.cuts;
        });
      })
      refl refl refl refl (SpanLemmas.stale_after k m views i v below_i at good d n w refl refl refl (λ e out. let z = raw_is e in omega arith))
      (let e = ap (λ t. empties k.capacity (anchor m) (times_parked good.shape t)) tally in omega arith) where
        d : ℕ
        d = superblock_of v.setup.capacity block

        n : ℕ
        n = span_count d v.large

        w : View
        w = after_split v (superblock_of v.setup.capacity block)

        large_is : (e : ℕ) → times_large e (without_span d v.large) + in_range d n e ≡ times_large e v.large
        large_is e = without_span_is e d v.large may.held

        raw_is : (e : ℕ) → times_raw e w ≡ times_raw e v + in_range d n e
        raw_is e = let a = times_append e v.split (steps d 1 n) in let t = times_range e d n in omega arith

        large' : ℕ → ℕ
        large' e = total (λ (x : View). times_large e x.large) (set views i w)

        large_are : (e : ℕ) → large' e + in_range d n e ≡ total (λ (x : View). times_large e x.large) views
        large_are e = let s = total_set (λ (x : View). times_large e x.large) views i v w below_i at in let z = large_is e in omega arith

        tally : tally_of (set views i w) ≡ record (tally_of views) { large = large'; raw = λ e. total (times_raw e) views + in_range d n e }
        tally = λ j. record {
          raw = λ e. (let z : total (times_raw e) (set views i w) ≡ total (times_raw e) views + in_range d n e =
              (let s = total_set (times_raw e) views i v w below_i at in let r = raw_is e in omega arith) in z) j;
          classed = λ e. (total_same (λ (x : View). times_classed e x.classed) views i v w below_i at refl) j;
          large = large';
          blocks = λ b. (total_same (times_block b) views i v w below_i at refl) j;
        }

        part_once : (e : ℕ) → times_large e v.large ≤ 1
        part_once e = let t = total_at (λ (x : View). times_large e x.large) views i v below_i at in let p = good.shaped.placed.one_place e in
            let most = one_at_most (nat_lt e (used m)) in omega arith

        is_large : (e : ℕ) → 0 < span_count e (without_span d v.large) → (info m e ≡ large_info (span_count e (without_span d v.large)))
            × ((f : ℕ) → e < f → f < e + span_count e (without_span d v.large) → info m f ≡ 0)
        is_large e some = elim (cases_eq e d) [
          | inl same ↦ absurd (let here = span_covers e e (without_span d v.large) some (omega arith) (omega arith) in let held = may.held in
              let r = range_is d n e (omega (arith, same)) (omega (arith, same, held)) in let l = large_is e in let most = part_once e in omega arith)
          | inr other ↦ subst (λ c. (info m e ≡ large_info c) × ((f : ℕ) → e < f → f < e + c → info m f ≡ 0))
              (sym (span_other e d v.large other)) (seat.claims.is_large e (let z = span_other e d v.large other in omega arith))
        ]

        floor : w.floor ≤ durable_used m
        floor = let f = seat.knows.floor in let held = may.held in let r = range_is d n (d + n - 1) (omega arith) (omega arith) in
            let l = large_are (d + n - 1) in
            let last = good.shaped.durable.below (d + n - 1) (omega arith) in omega arith
