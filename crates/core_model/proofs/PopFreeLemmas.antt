-- A pop from the list of the free superblocks, and what is so of each pop.
use Rattle.std.proofs.Common.{◌≡◌, ◌≢◌, ℕ, ◌+◌, ◌<◌, ◌≤◌, max, inl, inr, ◌⊎◌, nat_eq, List, get_or, set, length, Option, None, refl, ap, sym, subst, ◌∙◌, arith}
use Rattle.std.proofs.lemmas.Bool.{cases_eq}
use Rattle.heap_model.specs.Geometry.{largest_capacity_fits}
use Rattle.heap_model.specs.Words.{head_first, head_pops, anchor_state, empty_state}
use Rattle.heap_model.specs.Chains.{Follows}
use Rattle.heap_model.specs.Counting.{times, total, one_if}
use Rattle.core_model.specs.Cells.{head_cell}
use Rattle.core_model.specs.Memory.{Memory, volatile_at, used, durable_used, head, anchor, info, link, next, write}
use Rattle.core_model.specs.View.{Setup, View, Batch, Snapshot, LastLook, one_if_some, times_raw, times_classed, times_claimed, times_large, times_block}
use Rattle.core_model.specs.Effects.{before, seen, seen_word, seen_of, cleared, won, claimed, popped_head}
use Rattle.core_model.specs.Guards.{IsThere, MayPop}
use Rattle.core_model.specs.Sound.{CoreShape, Tally, tally_of, IsInShape, AreChained, Knows, KnowsHead, stale, stale_anchor, stale_head, differs, class_numbers, times_in_lists, times_parked, times_cut, empties, Good}
use Rattle.core_model.proofs.TotalLemmas.{total_set, total_same, total_unchanged, eq-eqb-one, ne-eqb-none}
use Rattle.core_model.proofs.FrameLemmas.{untouched, words_frame}
use Rattle.core_model.proofs.EventStepLemmas.{IsSeat, seat_at, good_step}
use Rattle.core_model.proofs.OwnLemmas.{own_grows, words_grow, stale_cleared, stale_head_most, cleared_other, won_tickets}
use Rattle.core_model.proofs.FreshLemmas.{cleared_same}
use Rattle.core_model.proofs.ListLemmas.{relist, relist_same, relist_other, IsFirst, first_is, head_parts, lists_set, in_lists_at, knows_pop, others_at_head, adds_at_head}
use Rattle.heap_model.proofs.ListLemmas.{follows_small}

module _ (k : Setup) (m : Memory) (views : List View) (i : ℕ) (v : View) (below_i : i < length views) (at : get_or views i v ≡ v)
    (good : Good k m views)
    (ticket : IsThere v.ticket) (may : MayPop v) (as_seen : head m (seen_of v.seen_head) ≡ seen_word v.seen_head) where
  pub seat : IsSeat k m good.shape v
  seat = seat_at k m views good i v below_i at

  abbrev pub l : ℕ
  l = seen_of v.seen_head

  abbrev pub word : ℕ
  word = seen_word v.seen_head

  abbrev pub d : ℕ
  d = before (head_first word)

  abbrev pub m' : Memory
  m' = write m (volatile_at (head_cell l)) (popped_head v)

  abbrev pub base : View
  base = record (won v) { seen_head = None; seen_link = None; seen_anchor = cleared d 1 v.seen_anchor }

  pub known_head : KnowsHead k.capacity (head m) (link m) good.shape.lists l word v.seen_link
  known_head = seat.knows.seen_head may.is_seen

  same_pops : head_pops word ≡ head_pops (head m l)
  same_pops = ap head_pops (sym as_seen)

  pub first : IsFirst (link m) k.capacity (head_first word) (good.shape.lists l)
  first = first_is (link m) k.capacity (head_first word) (good.shape.lists l)
      (subst (λ x. Follows (link m) k.capacity (head_first x) (good.shape.lists l)) as_seen (good.shaped.lists.follows l known_head.is_list))
      (known_head.linked may.link).0

  link_is : link m d ≡ seen v.seen_link
  link_is = (known_head.linked may.link).1 same_pops

  parts_of_head : (head_first (popped_head v) ≡ link m d) × (head_pops (popped_head v) ≡ head_pops word + 1)
  parts_of_head =
      let small : link m d ≤ k.capacity = follows_small (link m) k.capacity (link m d) first.rest first.follows in
      let fits = good.small in let limit = largest_capacity_fits in
      let next_first : head_first (seen v.seen_link) ≡ link m d = (let e = link_is in omega arith) in
      let p = head_parts (head_first (seen v.seen_link)) (head_pops word + 1) (omega arith) in
      (p.0 ∙ next_first, p.1)

  pub follows : Follows (link m) k.capacity (head_first (popped_head v)) first.rest
  follows = subst (λ x. Follows (link m) k.capacity x first.rest) (sym parts_of_head.0) first.follows

  abbrev pub g' : CoreShape
  g' = record good.shape { lists = relist good.shape.lists l first.rest }

  -- the list without its first descriptor
  pub at_list : (e : ℕ) → times e (good.shape.lists l) ≡ one_if (nat_eq d e) + times e first.rest
  at_list e = ap (times e) first.is

  pub fewer : (n e : ℕ) → times e (relist good.shape.lists l first.rest n) ≤ times e (good.shape.lists n)
  fewer n e = elim (cases_eq n l) [
    | inl same ↦ let a = ap (times e) (relist_same good.shape.lists l first.rest n same) in
        let b = ap (λ x. times e (good.shape.lists x)) same in let c = at_list e in omega arith
    | inr other ↦ let a = ap (times e) (relist_other good.shape.lists l first.rest n other) in omega arith
  ]

  pub there : 0 < times d (good.shape.lists l)
  there = let e = at_list d in let one = eq-eqb-one d d refl in omega arith

  durable_d : d < durable_used m
  durable_d = elim (cases_eq l 0) [
    | inl free ↦ good.shaped.durable.below d (let t = there in let e = ap (λ x. times d (good.shape.lists x)) free in omega arith)
    | inr class ↦ good.shaped.durable.below d (let t = there in let e = in_lists_at d good.shape.lists l known_head.is_list class in omega arith)
  ]

  -- the seat's snapshots
  pub knows_after : (w : View) → w.seen_head ≡ None → w.seen_used ≡ v.seen_used → w.used_look ≡ v.used_look → w.taken ≡ v.taken → w.batch ≡ v.batch
      → w.seen_anchor ≡ cleared d 1 v.seen_anchor
      → ((e : ℕ) → times_claimed e v ≤ times_claimed e w) → ((e : ℕ) → d ≢ e → times_classed e w.classed ≡ times_classed e v.classed)
      → w.floor ≡ max v.floor (d + 1)
      → Knows k.capacity m' g' w
  knows_after w none used_same look_same taken batch anchor_same more classed floor = let s = seat.knows in record {
    seen_head = λ t. absurd (let n = ap one_if_some none in omega arith);
    seen_used = subst (λ x. IsThere x → seen x ≤ used m) (sym used_same) s.seen_used;
    looked = (let l = s.looked in let a = ap (λ (x : LastLook). x.word) look_same in let b = ap (λ (x : LastLook). x.taken) look_same in omega arith);
    seen_anchor = λ t. let same = anchor_same ∙ cleared_same d 1 v.seen_anchor (subst IsThere anchor_same t) in
        subst (λ (x : Option Snapshot). (0 < times_claimed (seen_of x) w) ⊎ ((w.batch.descriptor ≡ seen_of x) × (1 ≤ length w.batch.blocks))) (sym same)
        (subst (λ (b : Batch). (0 < times_claimed (seen_of v.seen_anchor) w) ⊎ ((b.descriptor ≡ seen_of v.seen_anchor) × (1 ≤ length b.blocks)))
        (sym batch)
        (elim (s.seen_anchor (subst IsThere same t)) [ inl c ↦ inl (let e = more (seen_of v.seen_anchor) in omega arith) | inr b ↦ inr b ]));
    seen_empty = λ t. let still = subst IsThere anchor_same t in let same = anchor_same ∙ cleared_same d 1 v.seen_anchor still in
        subst (λ (x : Option Snapshot). 0 < times_classed (seen_of x) w.classed → anchor_state (seen_word x) ≡ empty_state
        → anchor_state (anchor m (seen_of x)) ≡ empty_state) (sym same)
        (λ some. s.seen_empty (subst IsThere same t) (let e = classed (seen_of v.seen_anchor)
        (λ is. cleared_other d 1 v.seen_anchor still (omega (arith, is)) (omega (arith, is))) in omega arith));
    floor = (let f = s.floor in let less = durable_d in omega arith);
  }

  pub stale_less : (w : View) → w.losses ≡ v.losses → w.seen_head ≡ None → w.seen_used ≡ v.seen_used → w.seen_anchor ≡ cleared d 1 v.seen_anchor
      → ((e : ℕ) → times_raw e v ≤ times_raw e w)
      → w.losses + stale m' w ≤ v.losses + stale m v
  stale_less w losses none used_same anchor_same more =
      let e = stale_cleared m v w d 1 v.seen_anchor (λ e out. more e) in
      let a = ap (stale_anchor m w) anchor_same in let b = ap (λ x. differs x (used m)) used_same in let c = ap (stale_head m') none in omega arith

  pub one_pop : head_pops (popped_head v) ≡ head_pops (head m l) + 1
  one_pop = parts_of_head.1 ∙ ap (λ n. n + 1) same_pops

  -- from the list of the free ones it is claimed without a class
  pub pop_free : l ≡ 0 → Good k m' (set views i (claimed base d 0))
  pop_free is = good_step k m m' views i v w good g' below_i at
      (subst (IsInShape k.capacity m' g') (sym tally) (let s = good.shaped in record {
        lists = lists_set k.capacity (head m) (link m) good.shape.lists l (popped_head v) first.rest s.lists follows;
        placed = record { one_place = λ e. let old = s.placed.one_place e in let a = free_is e in let b = lists_are e in omega arith };
        untaken = record { blank = λ e past below_c. let b = s.untaken.blank e past below_c in record { volatile = b.volatile; durable = b.durable } };
        listed = record {
          free = λ e some. s.listed.free e (let f = fewer 0 e in omega arith);
          in_class = λ class e is_class some. s.listed.in_class class e is_class (let f = fewer class e in omega arith);
          is_full = s.listed.is_full;
        };
        chained = subst (λ c. AreChained k.capacity (info m) (anchor m) (next m) good.shape.chains c (tally_of views).blocks) cut_same s.chained;
        durable = (let x = s.durable in record {
          behind = x.behind;
          room = x.room;
          below = λ e some. x.below e (let f = fewer 0 e in let b = lists_are e in omega arith);
          infos = λ e some. x.infos e (let b = lists_are e in omega arith);
        });
      }))
      (let s = seat.set_up in record {
        set_up = record {
          setup = s.setup;
          roots = s.roots;
          small = s.small;
          caches = s.caches;
          looks = s.looks;
          volatile = s.volatile;
          durable = s.durable;
        };
        claims = (let c = seat.claims in record {
          is_raw = λ e some. elim (cases_eq d e) as (λ _. anchor_state (anchor m e) ≡ empty_state) [
            | inl same ↦ subst (λ x. anchor_state (anchor m x) ≡ empty_state) same
                (good.shaped.listed.free d (let t = there in let z = ap (λ x. times d (good.shape.lists x)) is in omega arith))
            | inr other ↦ c.is_raw e (let z = ne-eqb-none d e other in omega arith)
          ];
          is_split = c.is_split;
          is_cutting = c.is_cutting;
          is_classed = c.is_classed;
          is_large = c.is_large;
          is_part = c.is_part;
          some = c.some;
        });
        blocks = seat.blocks;
        knows = knows_after w refl refl refl refl refl refl (λ e. omega arith) (λ e other. refl) refl;
        words = words_frame k.capacity m m' w (λ cell own. untouched w m.volatile (head_cell l) (popped_head v) cell refl own) (λ cell own. refl)
            (words_grow k.capacity m v w refl refl (own_grows v w refl (λ e. omega arith) (λ e. omega arith) (λ e. omega arith)) seat.words);
        tickets = won_tickets k.budget m.drawn v w seat.tickets ticket refl refl (omega arith) refl refl refl refl refl refl refl (omega arith);
      })
      (λ j x other b a. others_at_head k m good.shape l (popped_head v) first.rest
      (knows_pop k.capacity (head m) (link m) good.shape.lists l (popped_head v) first.rest (let p = one_pop in omega arith)) x)
      (adds_at_head k m views i v w below_i at good.adds l (popped_head v) known_head.is_list (let p = one_pop in omega arith) refl refl refl refl refl)
      (record { mine = stale_less w refl refl refl refl (λ e. omega arith); more = omega arith })
      (λ j x other b a. let e = stale_head_most m' x.seen_head in omega arith)
      (let old = good.moves in let gives = total_same (λ (x : View). x.gives) views i v w below_i at refl in
      let moves = total_same (λ (x : View). x.moves) views i v w below_i at refl in
      let empty = ap (λ (t : Tally). empties k.capacity (anchor m) (times_parked g' t)) tally in
      let same = ap (empties k.capacity (anchor m)) parked_same in omega arith) where
        w : View
        w = claimed base d 0

        tally : tally_of (set views i w) ≡ record (tally_of views) { raw = λ e. total (times_raw e) views + one_if (nat_eq d e) }
        tally = λ j. record {
          raw = λ e. (let z : total (times_raw e) (set views i w) ≡ total (times_raw e) views + one_if (nat_eq d e) =
              (let s = total_set (times_raw e) views i v w below_i at in omega arith) in z) j;
          classed = λ e. (total_same (λ (x : View). times_classed e x.classed) views i v w below_i at refl) j;
          large = λ e. (total_same (λ (x : View). times_large e x.large) views i v w below_i at refl) j;
          blocks = λ b. (total_same (times_block b) views i v w below_i at refl) j;
        }

        free_is : (e : ℕ) → times e (relist good.shape.lists l first.rest 0) + one_if (nat_eq d e) ≡ times e (good.shape.lists 0)
        free_is e = let a = ap (times e) (relist_same good.shape.lists l first.rest 0 (sym is)) in let b = at_list e in
            let c = ap (λ x. times e (good.shape.lists x)) is in omega arith

        list_same : (n e : ℕ) → n ≢ 0 → times e (relist good.shape.lists l first.rest n) ≡ times e (good.shape.lists n)
        list_same n e other = ap (times e) (relist_other good.shape.lists l first.rest n (λ z. other (z ∙ is)))

        lists_are : (e : ℕ) → times_in_lists g' e ≡ times_in_lists good.shape e
        lists_are e = total_unchanged (λ n. times e (good.shape.lists n))
            (λ n. times e (relist good.shape.lists l first.rest n)) 0 class_numbers (λ n other. list_same n e other) refl

        cut_same : times_cut good.shape (tally_of views) ≡ times_cut g' (tally_of views)
        cut_same = λ j e. (let z : times_cut good.shape (tally_of views) e ≡ times_cut g' (tally_of views) e = (let b = lists_are e in
            omega arith) in z) j

        parked_same : times_parked g' (tally_of views) ≡ times_parked good.shape (tally_of views)
        parked_same = λ j e. (let z : times_parked g' (tally_of views) e ≡ times_parked good.shape (tally_of views) e = (let b = lists_are e in
            omega arith) in z) j
