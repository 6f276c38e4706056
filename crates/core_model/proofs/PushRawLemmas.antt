-- A push of a superblock without a class, and what is so of each push.
use Rattle.std.proofs.Common.{◌≡◌, ◌≢◌, ℕ, ◌+◌, ◌<◌, ◌≤◌, inl, inr, ◌⊎◌, cond, nat_eq, nat_lt, List, ◌∷◌, get_or, set, length, Option, None, refl, ap, sym, subst, ◌∙◌, eq-eqb, ne_eqb, arith}
use Rattle.std.proofs.lemmas.Bool.{cases_eq, cases_lt}
use Rattle.heap_model.specs.Geometry.{lists, largest_capacity_fits}
use Rattle.heap_model.specs.Words.{head_first, head_pops, anchor_state, empty_state}
use Rattle.heap_model.specs.Chains.{Follows}
use Rattle.heap_model.specs.Rest.{list_numbers}
use Rattle.heap_model.specs.Counting.{times, total, one_if, below, without}
use Rattle.core_model.specs.Cells.{head_cell}
use Rattle.core_model.specs.Memory.{Memory, volatile_at, used, durable_used, head, anchor, info, link, next, write}
use Rattle.core_model.specs.View.{Setup, View, Batch, Snapshot, LastLook, one_if_some, times_raw, times_classed, times_claimed, times_large, times_block}
use Rattle.core_model.specs.Effects.{before, seen, seen_word, seen_of, cleared, won, pushed_raw, pushed_head}
use Rattle.core_model.specs.Guards.{IsThere, MayPush}
use Rattle.core_model.specs.Sound.{CoreShape, Tally, tally_of, IsInShape, AreChained, Knows, KnowsHead, stale, stale_anchor, stale_head, differs, class_numbers, times_in_lists, times_parked, times_cut, empties, Good}
use Rattle.core_model.proofs.TotalLemmas.{total_set, total_same, total_at, total_unchanged, ne-eqb-none}
use Rattle.core_model.proofs.FrameLemmas.{untouched, times_without, without_none}
use Rattle.core_model.proofs.EventStepLemmas.{IsSeat, seat_at, good_step, set_up_kept}
use Rattle.core_model.proofs.OwnLemmas.{words_left, stale_cleared, stale_head_most, cleared_other, won_tickets, length_only}
use Rattle.core_model.proofs.FreshLemmas.{cleared_same}
use Rattle.heap_model.proofs.ListLemmas.{without_less, one_at_most}
use Rattle.core_model.proofs.ListLemmas.{relist, relist_same, relist_other, head_parts, lists_set, others_at_head, adds_at_head}

-- a push leaves what others saw of the list's head: its pops, and that the descriptor is in the list
pub knows_push : (capacity : ℕ) (heads links : ℕ → ℕ) (descriptors : ℕ → List ℕ) (at word d : ℕ) → head_pops word ≡ head_pops (heads at)
    → (list seen_word : ℕ) (next : Option ℕ)
    → KnowsHead capacity heads links descriptors list seen_word next
    → KnowsHead capacity (λ n. cond (nat_eq n at) word (heads n)) links (relist descriptors at (d ∷ descriptors at)) list seen_word next
knows_push capacity heads links descriptors at word d same_pops list seen_word next h =
    let pops = pops_are list in
    record {
      is_list = h.is_list;
      small = h.small;
      pops = omega arith;
      listed = λ e some. let old = h.listed (e ∙ pops) some in let more = grows list (before (head_first seen_word)) in omega arith;
      linked = λ there. ((h.linked there).0, λ e. (h.linked there).1 (e ∙ pops));
    } where
      pops_are : (n : ℕ) → head_pops (cond (nat_eq n at) word (heads n)) ≡ head_pops (heads n)
      pops_are n = elim (cases_eq n at) [
        | inl same ↦ ap (λ t. head_pops (cond t word (heads n))) (eq-eqb n at same) ∙ same_pops ∙ ap (λ x. head_pops (heads x)) (sym same)
        | inr other ↦ ap (λ t. head_pops (cond t word (heads n))) (ne_eqb n at other)
      ]

      grows : (n e : ℕ) → times e (descriptors n) ≤ times e (relist descriptors at (d ∷ descriptors at) n)
      grows n e = elim (cases_eq n at) [
        | inl same ↦ let a = ap (times e) (relist_same descriptors at (d ∷ descriptors at) n same) in
            let b = ap (λ x. times e (descriptors x)) same in omega arith
        | inr other ↦ let a = ap (times e) (relist_other descriptors at (d ∷ descriptors at) n other) in omega arith
      ]

module _ (k : Setup) (m : Memory) (views : List View) (i : ℕ) (v : View) (below_i : i < length views) (at : get_or views i v ≡ v)
    (good : Good k m views)
    (ticket : IsThere v.ticket) (d : ℕ) (may : MayPush m v d) (as_seen : head m (seen_of v.seen_head) ≡ seen_word v.seen_head) where
  pub seat : IsSeat k m good.shape v
  seat = seat_at k m views good i v below_i at

  abbrev pub l : ℕ
  l = seen_of v.seen_head

  abbrev word : ℕ
  word = seen_word v.seen_head

  abbrev pub m' : Memory
  m' = write m (volatile_at (head_cell l)) (pushed_head v d)

  abbrev pub g' : CoreShape
  g' = record good.shape { lists = relist good.shape.lists l (d ∷ good.shape.lists l) }

  pub is_list : l < lists
  is_list = (seat.knows.seen_head may.is_seen).is_list

  pub small_d : d < k.capacity
  small_d = let a = may.durable in let b = good.shaped.durable.behind in let c = good.shaped.durable.room in omega arith

  pub parts_of_head : (head_first (pushed_head v d) ≡ d + 1) × (head_pops (pushed_head v d) ≡ head_pops (head m l))
  parts_of_head = let fits = good.small in let limit = largest_capacity_fits in let less = small_d in
      let p = head_parts (d + 1) (head_pops word) (omega arith) in (p.0, p.1 ∙ ap head_pops (sym as_seen))

  pub follows : Follows (link m) k.capacity (head_first (pushed_head v d)) (d ∷ good.shape.lists l)
  follows = (
    parts_of_head.0,
    small_d,
    subst (λ x. Follows (link m) k.capacity x (good.shape.lists l)) (ap head_first as_seen ∙ sym may.linked)
        (good.shaped.lists.follows l is_list),
  )

  -- each list, with one more in the one
  pub at_list : (n e : ℕ) → n ≡ l → times e (relist good.shape.lists l (d ∷ good.shape.lists l) n)
      ≡ one_if (nat_eq d e) + times e (good.shape.lists n)
  at_list n e same = ap (times e) (relist_same good.shape.lists l (d ∷ good.shape.lists l) n same)
      ∙ ap (λ x. one_if (nat_eq d e) + times e (good.shape.lists x)) (sym same)

  pub off_list : (n e : ℕ) → n ≢ l → times e (relist good.shape.lists l (d ∷ good.shape.lists l) n) ≡ times e (good.shape.lists n)
  off_list n e other = ap (times e) (relist_other good.shape.lists l (d ∷ good.shape.lists l) n other)

  pub others : (x : View) → IsSeat k m good.shape x → IsSeat k m' g' x
  others = others_at_head k m good.shape l (pushed_head v d) (d ∷ good.shape.lists l)
      (knows_push k.capacity (head m) (link m) good.shape.lists l (pushed_head v d) d parts_of_head.1)

  -- the seat's snapshots; `w` has the descriptor no more
  pub knows_after : (w : View) → w.seen_head ≡ None → w.seen_used ≡ v.seen_used → w.used_look ≡ v.used_look → w.taken ≡ v.taken → w.batch ≡ v.batch
      → w.seen_anchor ≡ cleared d 1 v.seen_anchor
      → ((e : ℕ) → d ≢ e → times_claimed e w ≡ times_claimed e v) → ((e : ℕ) → d ≢ e → times_classed e w.classed ≡ times_classed e v.classed)
      → w.floor ≡ v.floor
      → Knows k.capacity m' g' w
  knows_after w none used_same look_same taken batch anchor_same same_claims classed floor = let s = seat.knows in record {
    seen_head = λ t. absurd (let n = ap one_if_some none in omega arith);
    seen_used = subst (λ x. IsThere x → seen x ≤ used m) (sym used_same) s.seen_used;
    looked = (let y = s.looked in let a = ap (λ (x : LastLook). x.word) look_same in let b = ap (λ (x : LastLook). x.taken) look_same in omega arith);
    seen_anchor = λ t. let still = subst IsThere anchor_same t in let same = anchor_same ∙ cleared_same d 1 v.seen_anchor still in
        subst (λ (x : Option Snapshot). (0 < times_claimed (seen_of x) w) ⊎ ((w.batch.descriptor ≡ seen_of x) × (1 ≤ length w.batch.blocks))) (sym same)
        (subst (λ (b : Batch). (0 < times_claimed (seen_of v.seen_anchor) w) ⊎ ((b.descriptor ≡ seen_of v.seen_anchor) × (1 ≤ length b.blocks)))
        (sym batch)
        (elim (s.seen_anchor (subst IsThere same t)) [
          | inl c ↦ inl (let e =
              same_claims (seen_of v.seen_anchor) (λ is. cleared_other d 1 v.seen_anchor still (omega (arith, is)) (omega (arith, is))) in
              omega arith)
          | inr b ↦ inr b
        ]));
    seen_empty = λ t. let still = subst IsThere anchor_same t in let same = anchor_same ∙ cleared_same d 1 v.seen_anchor still in
        subst (λ (x : Option Snapshot). 0 < times_classed (seen_of x) w.classed → anchor_state (seen_word x) ≡ empty_state
        → anchor_state (anchor m (seen_of x)) ≡ empty_state) (sym same)
        (λ some. s.seen_empty (subst IsThere same t) (let e = classed (seen_of v.seen_anchor)
        (λ is. cleared_other d 1 v.seen_anchor still (omega (arith, is)) (omega (arith, is))) in omega arith));
    floor = (let f = s.floor in omega arith);
  }

  pub stale_less : (w : View) → w.losses ≡ v.losses → w.seen_head ≡ None → w.seen_used ≡ v.seen_used → w.seen_anchor ≡ cleared d 1 v.seen_anchor
      → ((e : ℕ) → d ≢ e → times_raw e v ≤ times_raw e w)
      → w.losses + stale m' w ≤ v.losses + stale m v
  stale_less w losses none used_same anchor_same more =
      let e = stale_cleared m v w d 1 v.seen_anchor (λ e out. more e (λ same. out (omega (arith, same)) (omega (arith, same)))) in
      let a = ap (stale_anchor m w) anchor_same in let b = ap (λ x. differs x (used m)) used_same in let c = ap (stale_head m') none in omega arith

  -- the claims together are at most one
  pub one_claim : (e : ℕ) → times_raw e v + times_classed e v.classed + total (λ n. times e (good.shape.lists n)) list_numbers ≤ 1
  one_claim e = let a = good.shaped.placed.one_place e in let r = total_at (times_raw e) views i v below_i at in
      let c = total_at (λ (x : View). times_classed e x.classed) views i v below_i at in
      let limit = below_most e (used m) in omega arith where
        below_most : (n limit : ℕ) → below n limit ≤ 1
        below_most n limit = one_at_most (nat_lt n limit)

  -- an empty superblock without a class goes to the list of the free ones
  pub push_raw : 0 < times d v.raw + times d v.split → l ≡ 0 → anchor_state (anchor m d) ≡ empty_state → Good k m' (set views i (pushed_raw v d))
  push_raw some is empty = good_step k m m' views i v w good g' below_i at
      (subst (IsInShape k.capacity m' g') (sym tally) (let s = good.shaped in record {
        lists = lists_set k.capacity (head m) (link m) good.shape.lists l (pushed_head v d) (d ∷ good.shape.lists l) s.lists follows;
        placed = record {
          one_place = λ e. let old = s.placed.one_place e in let a = at_list 0 e (sym is) in let b = lists_are e in
              let c = raw_are e in omega arith;
        };
        untaken = record { blank = λ e past below_c. let b = s.untaken.blank e past below_c in record { volatile = b.volatile; durable = b.durable } };
        listed = record {
          free = λ e here. elim (cases_eq d e) as (λ _. anchor_state (anchor m e) ≡ empty_state) [
            | inl same ↦ subst (λ x. anchor_state (anchor m x) ≡ empty_state) same empty
            | inr other ↦ s.listed.free e (let a = at_list 0 e (sym is) in let z = ne-eqb-none d e other in omega arith)
          ];
          in_class = λ class e is_class here. s.listed.in_class class e is_class
              (let a = off_list class e (λ z. let y = is_class.some in omega (arith, z, is, y)) in omega arith);
          is_full = s.listed.is_full;
        };
        chained = subst (λ c. AreChained k.capacity (info m) (anchor m) (next m) good.shape.chains c (tally_of views).blocks) cut_same s.chained;
        durable = (let x = s.durable in record {
          behind = x.behind;
          room = x.room;
          below = λ e here. elim (cases_eq d e) as (λ _. e < durable_used m) [
            | inl same ↦ subst (λ y. y < durable_used m) same may.durable
            | inr other ↦ x.below e (let a = at_list 0 e (sym is) in let z = ne-eqb-none d e other in let b = lists_are e in omega arith)
          ];
          infos = λ e here. x.infos e (let b = lists_are e in omega arith);
        });
      }))
      (record {
        set_up = set_up_kept k v w seat.set_up refl refl refl refl refl (length_only base 0 v.volatile) (length_only base 0 v.durable);
        claims = (let c = seat.claims in record {
          is_raw = λ e here. c.is_raw e (let z = without_less e d v.raw in omega arith);
          is_split = λ e here. c.is_split e (let z = without_less e d v.split in omega arith);
          is_cutting = c.is_cutting;
          is_classed = c.is_classed;
          is_large = c.is_large;
          is_part = c.is_part;
          some = c.some;
        });
        blocks = seat.blocks;
        knows = knows_after w refl refl refl refl refl refl (λ e other. let z = raw_is e in let n = ne-eqb-none d e other in
            omega arith) (λ e other. refl) refl;
        words = words_left k m m' v base seat.set_up.setup seat.words
            (λ cell own. untouched v m.volatile (head_cell l) (pushed_head v d) cell refl own) (λ cell own. refl) refl refl refl;
        tickets = won_tickets k.budget m.drawn v w seat.tickets ticket refl refl (omega arith) refl refl refl refl refl refl refl (omega arith);
      })
      (λ j x other b a. others x)
      (adds_at_head k m views i v w below_i at good.adds l (pushed_head v d) is_list (let p = parts_of_head.1 in omega arith) refl refl refl refl refl)
      (record {
        mine = stale_less w refl refl refl refl (λ e other. let z = raw_is e in let n = ne-eqb-none d e other in omega arith);
        more = omega arith;
      })
      (λ j x other b a. let e = stale_head_most m' x.seen_head in omega arith)
      (let old = good.moves in let gives = total_same (λ (x : View). x.gives) views i v w below_i at refl in
      let moves = total_same (λ (x : View). x.moves) views i v w below_i at refl in
      let empty_now = ap (λ (t : Tally). empties k.capacity (anchor m) (times_parked g' t)) tally in
      let same = ap (empties k.capacity (anchor m)) parked_same in omega arith) where
        base : View
        base = record (won v) { raw = without d v.raw; split = without d v.split; seen_head = None; seen_anchor = cleared d 1 v.seen_anchor }

        w : View
        w = pushed_raw v d

        raw_is : (e : ℕ) → times_raw e w + one_if (nat_eq d e) ≡ times_raw e v
        raw_is e = let most = one_claim d in elim (cases_lt 0 (times d v.raw)) as (λ _. times_raw e w + one_if (nat_eq d e) ≡ times_raw e v) [
          | inl in_raw ↦ let a = times_without e d v.raw in_raw in let b = without_none e d v.split (omega arith) in omega arith
          | inr not_raw ↦ let a = without_none e d v.raw (omega arith) in let b = times_without e d v.split (omega arith) in omega arith
        ]

        raw' : ℕ → ℕ
        raw' e = total (times_raw e) (set views i w)

        raw_are : (e : ℕ) → raw' e + one_if (nat_eq d e) ≡ total (times_raw e) views
        raw_are e = let s = total_set (times_raw e) views i v w below_i at in let z = raw_is e in omega arith

        t' : Tally
        t' = record (tally_of views) { raw = raw' }

        tally : tally_of (set views i w) ≡ t'
        tally = λ j. record {
          raw = raw';
          classed = λ e. (total_same (λ (x : View). times_classed e x.classed) views i v w below_i at refl) j;
          large = λ e. (total_same (λ (x : View). times_large e x.large) views i v w below_i at refl) j;
          blocks = λ b. (total_same (times_block b) views i v w below_i at refl) j;
        }

        lists_are : (e : ℕ) → times_in_lists g' e ≡ times_in_lists good.shape e
        lists_are e = total_unchanged (λ n. times e (good.shape.lists n))
            (λ n. times e (relist good.shape.lists l (d ∷ good.shape.lists l) n)) 0 class_numbers (λ n other. off_list n e (λ z. other (z ∙ is))) refl

        cut_same : times_cut good.shape (tally_of views) ≡ times_cut g' t'
        cut_same = λ j e. (let z : times_cut good.shape (tally_of views) e ≡ times_cut g' t' e = (let b = lists_are e in omega arith) in z) j

        parked_same : times_parked g' t' ≡ times_parked good.shape (tally_of views)
        parked_same = λ j e. (let z : times_parked g' t' e ≡ times_parked good.shape (tally_of views) e = (let b = lists_are e in omega arith) in z) j
