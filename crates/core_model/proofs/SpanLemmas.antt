-- Changes of a seat's parts that go with a draw: superblocks become a large block.
use Rattle.std.proofs.Common.{◌≡◌, ◌≢◌, ℕ, ◌+◌, ◌<◌, ◌≤◌, inl, inr, ◌⊎◌, cond, nat_lt, List, ◌∷◌, get_or, set, length, Option, refl, ap, sym, subst, ◌∙◌, eq-eqb, ne_eqb, arith}
use Rattle.std.proofs.lemmas.Bool.{cases_eq}
use Rattle.heap_model.specs.Words.{anchor_state, empty_state, partial_state, large_info}
use Rattle.heap_model.specs.Counting.{times, total}
use Rattle.heap_model.proofs.MemberLemmas.{head_or_rest}
use Rattle.core_model.specs.Memory.{Memory, used, durable_used, head, anchor, info, link}
use Rattle.core_model.specs.View.{Setup, View, Batch, Span, Snapshot, LastLook, times_raw, times_classed, times_claimed, times_large, times_block}
use Rattle.core_model.specs.Effects.{seen, seen_word, seen_of, cleared, without_range, span_count, trimmed}
use Rattle.core_model.specs.ViewAfter.{after_large}
use Rattle.core_model.specs.Guards.{IsThere, MayHoldLarge}
use Rattle.core_model.specs.Sound.{CoreShape, tally_of, IsInShape, Knows, KnowsHead, KnowsWords, stale, stale_anchor, stale_head, differs, times_parked, empties, Good}
use Rattle.core_model.proofs.TotalLemmas.{total_set, total_same, total_at}
use Rattle.heap_model.proofs.ListLemmas.{one_at_most}
use Rattle.core_model.proofs.EventStepLemmas.{IsSeat, seat_at}
use Rattle.core_model.proofs.OwnLemmas.{words_left, stale_cleared, cleared_other, length_only}
use Rattle.core_model.proofs.FreshLemmas.{cleared_same}
use Rattle.core_model.proofs.ShiftLemmas.{shift_step}
use Rattle.core_model.proofs.RangeLemmas.{cases_range, range_not, without_range_in, without_range_out, in_range, range_is}

module _ (k : Setup) (m : Memory) (views : List View) (i : ℕ) (v : View) (below_i : i < length views) (at : get_or views i v ≡ v)
    (good : Good k m views) where
  pub seat : IsSeat k m good.shape v
  seat = seat_at k m views good i v below_i at

  cap : v.setup.capacity ≡ k.capacity
  cap = ap (λ (s : Setup). s.capacity) seat.set_up.setup

  -- what is known of own words that are left
  pub words_after : (y : View) → y.setup ≡ v.setup → y.volatile ≡ v.volatile → y.durable ≡ v.durable → KnowsWords k.capacity m (trimmed y)
  words_after y = words_left k m m v y seat.set_up.setup seat.words (λ cell own. refl) (λ cell own. refl)

  -- the snapshots, where descriptors of a range enter or leave the hand
  pub knows_after : (from n : ℕ) (w : View) (g : CoreShape) → g.lists ≡ good.shape.lists → w.seen_head ≡ v.seen_head → w.seen_link ≡ v.seen_link
      → w.seen_used ≡ v.seen_used → w.used_look ≡ v.used_look → w.taken ≡ v.taken → w.batch ≡ v.batch
      → w.seen_anchor ≡ cleared from n v.seen_anchor → w.classed ≡ v.classed
      → ((e : ℕ) → (from ≤ e → e < from + n → ⊥) → times_raw e v ≤ times_raw e w) → w.floor ≤ durable_used m → Knows k.capacity m g w
  knows_after from n w g same_lists head_same link_same used_same look_same taken batch anchor_same classed raw floor = let s = seat.knows in record {
    seen_head = subst (λ x. IsThere x → KnowsHead k.capacity (head m) (link m) g.lists (seen_of x) (seen_word x) w.seen_link) (sym head_same)
        (subst (λ x. IsThere v.seen_head → KnowsHead k.capacity (head m) (link m) g.lists (seen_of v.seen_head) (seen_word v.seen_head) x)
        (sym link_same)
        (subst (λ x. IsThere v.seen_head → KnowsHead k.capacity (head m) (link m) x (seen_of v.seen_head) (seen_word v.seen_head) v.seen_link)
        (sym same_lists) s.seen_head));
    seen_used = subst (λ x. IsThere x → seen x ≤ used m) (sym used_same) s.seen_used;
    looked = (let l = s.looked in let a = ap (λ (x : LastLook). x.word) look_same in let b = ap (λ (x : LastLook). x.taken) look_same in omega arith);
    seen_anchor = λ t. let still = subst IsThere anchor_same t in let same = anchor_same ∙ cleared_same from n v.seen_anchor still in
        subst (λ (x : Option Snapshot). (0 < times_claimed (seen_of x) w) ⊎ ((w.batch.descriptor ≡ seen_of x) × (1 ≤ length w.batch.blocks))) (sym same)
        (subst (λ (b : Batch). (0 < times_claimed (seen_of v.seen_anchor) w) ⊎ ((b.descriptor ≡ seen_of v.seen_anchor) × (1 ≤ length b.blocks)))
        (sym batch)
        (elim (s.seen_anchor (subst IsThere same t)) [
          | inl c ↦ inl (let e =
              raw (seen_of v.seen_anchor) (cleared_other from n v.seen_anchor still) in
              let f = ap (times_classed (seen_of v.seen_anchor)) classed in omega arith)
          | inr b ↦ inr b
        ]));
    seen_empty = λ t. let still = subst IsThere anchor_same t in let same = anchor_same ∙ cleared_same from n v.seen_anchor still in
        subst (λ (x : Option Snapshot). 0 < times_classed (seen_of x) w.classed → anchor_state (seen_word x) ≡ empty_state
        → anchor_state (anchor m (seen_of x)) ≡ empty_state) (sym same)
        (λ some. s.seen_empty (subst IsThere same t) (let f = ap (times_classed (seen_of v.seen_anchor)) classed in omega arith));
    floor = floor;
  }

  pub stale_after : (from n : ℕ) (w : View) → w.seen_head ≡ v.seen_head → w.seen_used ≡ v.seen_used
      → w.seen_anchor ≡ cleared from n v.seen_anchor → ((e : ℕ) → (from ≤ e → e < from + n → ⊥) → times_raw e v ≤ times_raw e w) → stale m w ≤ stale m v
  stale_after from n w head_same used_same anchor_same raw =
      let e = stale_cleared m v w from n v.seen_anchor raw in let a = ap (stale_anchor m w) anchor_same in
      let b = ap (λ x. differs x (used m)) used_same in let c = ap (stale_head m) head_same in omega arith

  -- a large block is held
  pub hold_large : (d n : ℕ) → MayHoldLarge m v d n → Good k m (set views i (after_large v d n))
  hold_large d n may = shift_step k m views i v below_i at good w good.shape refl
      (subst (IsInShape k.capacity m good.shape) (sym tally) (let s = good.shaped in record {
        lists = s.lists;
        placed = record { one_place = λ e. let old = s.placed.one_place e in let r = raw_are e in omega arith };
        untaken = s.untaken;
        listed = s.listed;
        chained = s.chained;
        durable = (let y = s.durable in record {
          behind = y.behind;
          room = y.room;
          below = λ e some. elim (cases_range d n e) [
            | inl inside ↦ let l = may.durable in let h = inside.1 in
                omega arith
            | inr out ↦ y.below e (let r = range_not d n e out in omega arith)
          ];
          infos = λ e some. elim (cases_range d n e) [
            | inl inside ↦ may.durable_infos e inside.0 inside.1
            | inr out ↦ y.infos e
                (let r = range_not d n e out in omega arith)
          ];
        });
      }))
      (let s = seat.set_up in record {
        set_up = record {
          setup = s.setup;
          roots = s.roots;
          small = s.small;
          caches = s.caches;
          looks = s.looks;
          volatile = length_only base 0 v.volatile ∙ s.volatile;
          durable = length_only base 0 v.durable ∙ s.durable;
        };
        claims = (let c = seat.claims in record {
          is_raw = λ e some. c.is_raw e (let l = less e v.raw in omega arith);
          is_split = λ e some. c.is_split e (let l = less e v.split in omega arith);
          is_cutting = c.is_cutting;
          is_classed = c.is_classed;
          is_large = is_large;
          is_part = λ e some. elim (cases_range d n e) as (λ _. anchor_state (anchor m e) ≢ partial_state) [
            | inl inside ↦ elim (may.empty e inside.0 inside.1) as (λ _. anchor_state (anchor m e) ≢ partial_state)
                [ inl empty ↦ (λ z. omega (arith, z, empty)) | inr split ↦ c.is_split e split ]
            | inr out ↦ c.is_part e (let r = range_not d n e out in omega arith)
          ];
          some = λ x p. elim (head_or_rest (record { first = d; count = n }) x v.large p)
              [ inl same ↦ subst (λ (y : Span). 1 ≤ y.count) same may.some | inr old ↦ c.some x old ];
        });
        blocks = seat.blocks;
        knows = knows_after d n w good.shape refl refl refl refl refl refl refl refl refl raw_out seat.knows.floor;
        words = words_after base refl refl refl;
        tickets = (let t = seat.tickets in record {
          ticket = t.ticket;
          last = t.last;
          used_look = t.used_look;
          head_looks = t.head_looks;
          counts = t.counts;
          state = t.state;
          looked_then = t.looked_then;
          gives = t.gives;
          cuts = t.cuts;
        });
      })
      refl refl refl refl (stale_after d n w refl refl refl raw_out)
      (let e = ap (λ t. empties k.capacity (anchor m) (times_parked good.shape t)) tally in omega arith) where
        base : View
        base = record v {
          large = record { first = d; count = n } ∷ v.large;
          raw = without_range d n v.raw;
          split = without_range d n v.split;
          seen_anchor = cleared d n v.seen_anchor;
        }

        w : View
        w = after_large v d n

        less : (e : ℕ) (xs : List ℕ) → times e (without_range d n xs) ≤ times e xs
        less e xs = elim (cases_range d n e) [
          | inl inside ↦ let z = without_range_in e d n xs inside.0 inside.1 in
              omega arith
          | inr out ↦ let z = without_range_out e d n xs out in omega arith
        ]

        raw_is : (e : ℕ) → times_raw e w + in_range d n e ≡ times_raw e v
        raw_is e = elim (cases_range d n e) as (λ _. times_raw e w + in_range d n e ≡ times_raw e v) [
          | inl inside ↦ let a = without_range_in e d n v.raw inside.0 inside.1 in let b = without_range_in e d n v.split inside.0 inside.1 in
              let r = range_is d n e inside.0 inside.1 in
              let some = may.claimed e inside.0 inside.1 in let t = total_at (times_raw e) views i v below_i at in
              let p = good.shaped.placed.one_place e in let most = one_at_most (nat_lt e (used m)) in omega arith
          | inr out ↦ let a = without_range_out e d n v.raw out in let b = without_range_out e d n v.split out in let r = range_not d n e out in
              omega arith
        ]

        raw_out : (e : ℕ) → (d ≤ e → e < d + n → ⊥) → times_raw e v ≤ times_raw e w
        raw_out e out = let z = raw_is e in let r = range_not d n e out in omega arith

        raw' : ℕ → ℕ
        raw' e = total (times_raw e) (set views i w)

        raw_are : (e : ℕ) → raw' e + in_range d n e ≡ total (times_raw e) views
        raw_are e = let s = total_set (times_raw e) views i v w below_i at in let z = raw_is e in omega arith

        tally : tally_of (set views i w) ≡ record (tally_of views) {
          raw = raw';
          large = λ e. total (λ (x : View). times_large e x.large) views + in_range d n e;
        }
        tally = λ j. record {
          raw = raw';
          classed = λ e. (total_same (λ (x : View). times_classed e x.classed) views i v w below_i at refl) j;
          large = λ e. (let z : total (λ (x : View). times_large e x.large) (set views i w) ≡ total
              (λ (x : View). times_large e x.large) views + in_range d n e =
              (let s = total_set (λ (x : View). times_large e x.large) views i v w below_i at in omega arith) in z) j;
          blocks = λ b. (total_same (times_block b) views i v w below_i at refl) j;
        }

        is_large : (e : ℕ) → 0 < span_count e w.large → (info m e ≡ large_info (span_count e w.large))
            × ((f : ℕ) → e < f → f < e + span_count e w.large → info m f ≡ 0)
        is_large e some = elim (cases_eq d e) [
          | inl same ↦ subst (λ t. (info m e ≡ large_info (cond t n (span_count e v.large)))
              × ((f : ℕ) → e < f → f < e + cond t n (span_count e v.large) → info m f ≡ 0)) (sym (eq-eqb d e same))
              (ap (info m) (sym same) ∙ may.first, λ f low high. may.others f (omega (arith, same)) (omega (arith, same)))
          | inr other ↦ subst (λ t. (info m e ≡ large_info (cond t n (span_count e v.large)))
              × ((f : ℕ) → e < f → f < e + cond t n (span_count e v.large) → info m f ≡ 0)) (sym (ne_eqb d e other))
              (seat.claims.is_large e (let z : span_count e w.large ≡ span_count e v.large =
              ap (λ t. cond t n (span_count e v.large)) (ne_eqb d e other) in omega arith))
        ]
