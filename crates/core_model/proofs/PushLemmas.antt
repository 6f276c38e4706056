-- A push: a claimed descriptor goes to the front of a list.
use Rattle.std.proofs.Common.{◌≡◌, ◌≢◌, ℕ, ◌+◌, ◌<◌, ◌≤◌, inl, inr, Bool, true, false, cond, ◌&&◌, nat_eq, nat_lt, List, ◌∷◌, get_or, set, length, None, refl, ap, sym, subst, ◌∙◌, eq-eqb, ne_eqb, lt-ltb, arith}
use Rattle.std.proofs.lemmas.Bool.{cases_eq, cases_lt}
use Rattle.heap_model.specs.Geometry.{lists, superblock_of}
use Rattle.heap_model.specs.Sizes.{IsClass}
use Rattle.heap_model.specs.Words.{head_first, anchor_state, empty_state, full_state}
use Rattle.heap_model.specs.Chains.{Follows}
use Rattle.heap_model.specs.Rest.{list_numbers}
use Rattle.heap_model.specs.Counting.{times, total, one_if, below}
use Rattle.core_model.specs.Cells.{head_cell}
use Rattle.core_model.specs.Memory.{Memory, used, durable_used, head, anchor, info, link, next}
use Rattle.core_model.specs.View.{Setup, View, times_raw, times_classed, times_claimed, times_large, times_block}
use Rattle.core_model.specs.Effects.{seen_word, seen_of, cleared, without_claim, steps, won, pushed, pushed_raw, pushed_classed, pushed_head}
use Rattle.core_model.specs.Guards.{IsThere, MayPush, MayList, as_free, of_its_class}
use Rattle.core_model.specs.Sound.{CoreShape, Tally, tally_of, IsInShape, AreChained, IsCutBlock, Knows, stale, class_numbers, times_in_lists, times_parked, times_cut, empties, Good}
use Rattle.core_model.proofs.TotalLemmas.{total_set, total_same, total_at, total_change, total_unchanged, eq-eqb-one, ne-eqb-none}
use Rattle.core_model.proofs.FrameLemmas.{untouched, times_steps, below_is, below_not}
use Rattle.core_model.proofs.EventStepLemmas.{IsSeat, good_step, set_up_kept}
use Rattle.core_model.proofs.OwnLemmas.{words_left, stale_head_most, won_tickets, length_only}
use Rattle.core_model.proofs.CountLemmas.{times_without_claim, claims_without, claimed_is_cut, all_without_claim, all_home}
use Rattle.heap_model.proofs.ListLemmas.{one_at_most}
use Rattle.heap_model.proofs.CountingLemmas.{one_if_true}
use Rattle.core_model.proofs.PlaceLemmas.{and_is, not-lt}
use Rattle.core_model.proofs.ListLemmas.{relist, lists_set, in_lists_set, adds_at_head}
use Rattle.core_model.proofs.PushRawLemmas

module _ (k : Setup) (m : Memory) (views : List View) (i : ℕ) (v : View) (below_i : i < length views) (at : get_or views i v ≡ v)
    (good : Good k m views)
    (ticket : IsThere v.ticket) (d : ℕ) (may : MayPush m v d) (as_seen : head m (seen_of v.seen_head) ≡ seen_word v.seen_head) where
  abbrev seat : IsSeat k m good.shape v
  seat = PushRawLemmas.seat k m views i v below_i at good ticket d may as_seen

  abbrev l : ℕ
  l = PushRawLemmas.l k m views i v below_i at good ticket d may as_seen

  abbrev m' : Memory
  m' = PushRawLemmas.m' k m views i v below_i at good ticket d may as_seen

  abbrev g' : CoreShape
  g' = PushRawLemmas.g' k m views i v below_i at good ticket d may as_seen

  abbrev is_list : l < lists
  is_list = PushRawLemmas.is_list k m views i v below_i at good ticket d may as_seen

  abbrev small_d : d < k.capacity
  small_d = PushRawLemmas.small_d k m views i v below_i at good ticket d may as_seen

  abbrev follows : Follows (link m) k.capacity (head_first (pushed_head v d)) (d ∷ good.shape.lists l)
  follows = PushRawLemmas.follows k m views i v below_i at good ticket d may as_seen

  abbrev at_list : (n e : ℕ) → n ≡ l → times e (relist good.shape.lists l (d ∷ good.shape.lists l) n)
      ≡ one_if (nat_eq d e) + times e (good.shape.lists n)
  at_list = PushRawLemmas.at_list k m views i v below_i at good ticket d may as_seen

  abbrev off_list : (n e : ℕ) → n ≢ l → times e (relist good.shape.lists l (d ∷ good.shape.lists l) n) ≡ times e (good.shape.lists n)
  off_list = PushRawLemmas.off_list k m views i v below_i at good ticket d may as_seen

  abbrev others : (x : View) → IsSeat k m good.shape x → IsSeat k m' g' x
  others = PushRawLemmas.others k m views i v below_i at good ticket d may as_seen

  abbrev knows_after : (w : View) → w.seen_head ≡ None → w.seen_used ≡ v.seen_used → w.used_look ≡ v.used_look → w.taken ≡ v.taken → w.batch ≡ v.batch
      → w.seen_anchor ≡ cleared d 1 v.seen_anchor
      → ((e : ℕ) → d ≢ e → times_claimed e w ≡ times_claimed e v) → ((e : ℕ) → d ≢ e → times_classed e w.classed ≡ times_classed e v.classed)
      → w.floor ≡ v.floor
      → Knows k.capacity m' g' w
  knows_after = PushRawLemmas.knows_after k m views i v below_i at good ticket d may as_seen

  abbrev stale_less : (w : View) → w.losses ≡ v.losses → w.seen_head ≡ None → w.seen_used ≡ v.seen_used → w.seen_anchor ≡ cleared d 1 v.seen_anchor
      → ((e : ℕ) → d ≢ e → times_raw e v ≤ times_raw e w)
      → w.losses + stale m' w ≤ v.losses + stale m v
  stale_less = PushRawLemmas.stale_less k m views i v below_i at good ticket d may as_seen

  abbrev one_claim : (e : ℕ) → times_raw e v + times_classed e v.classed + total (λ n. times e (good.shape.lists n)) list_numbers ≤ 1
  one_claim = PushRawLemmas.one_claim k m views i v below_i at good ticket d may as_seen

  abbrev push_raw : 0 < times d v.raw + times d v.split → l ≡ 0 → anchor_state (anchor m d) ≡ empty_state → Good k m' (set views i (pushed_raw v d))
  push_raw = PushRawLemmas.push_raw k m views i v below_i at good ticket d may as_seen

  -- a superblock of a class is put down
  module _ (claimed : 0 < times_classed d v.classed) where
    abbrev base : View
    base = record (won v) {
      classed = without_claim d v.classed;
      seen_head = None;
      seen_anchor = cleared d 1 v.seen_anchor;
      moves = cond (nat_eq l 0) (v.moves + 1) v.moves;
    }

    abbrev w : View
    w = pushed_classed v d

    abbrev classed' : ℕ → ℕ
    classed' e = total (λ (x : View). times_classed e x.classed) (set views i w)

    abbrev t' : Tally
    t' = record (tally_of views) { classed = classed' }

    classed_are : (e : ℕ) → classed' e + one_if (nat_eq d e) ≡ total (λ (x : View). times_classed e x.classed) views
    classed_are e = all_without_claim e d views i v w below_i at claimed refl

    tally : tally_of (set views i w) ≡ t'
    tally = λ j. record {
      raw = λ e. (total_same (times_raw e) views i v w below_i at refl) j;
      classed = classed';
      large = λ e. (total_same (λ (x : View). times_large e x.large) views i v w below_i at refl) j;
      blocks = λ b. (total_same (times_block b) views i v w below_i at refl) j;
    }

    once : times_classed d v.classed ≡ 1
    once = let most = one_claim d in omega arith

    mine : IsSeat k m' g' w
    mine = record {
      set_up = set_up_kept k v w seat.set_up refl refl refl refl refl (length_only base 0 v.volatile) (length_only base 0 v.durable);
      claims = claims_without (info m) (anchor m) v.raw v.split v.cutting v.classed v.large d once seat.claims;
      blocks = seat.blocks;
      knows = knows_after w refl refl refl refl refl refl (λ e other. let z = times_without_claim e d v.classed claimed in
          let n = ne-eqb-none d e other in omega arith) (λ e other. let z = times_without_claim e d v.classed claimed in
          let n = ne-eqb-none d e other in omega arith) refl;
      words = words_left k m m' v base seat.set_up.setup seat.words (λ cell own. untouched v m.volatile (head_cell l)
          (pushed_head v d) cell refl own) (λ cell own. refl) refl refl refl;
      tickets = won_tickets k.budget m.drawn v w seat.tickets ticket refl refl (omega arith) refl refl refl refl refl refl refl (moved (nat_eq l 0));
    } where
      moved : (test : Bool) → v.gives + cond test (v.moves + 1) v.moves ≤ v.gives + v.moves + 1
      moved true = omega arith
      moved false = omega arith

    -- in the list of its class
    push_class : l ≢ 0 → info m d ≡ l → Good k m' (set views i w)
    push_class some is = good_step k m m' views i v w good g' below_i at
        (subst (IsInShape k.capacity m' g') (sym tally) (let s = good.shaped in record {
          lists = lists_set k.capacity (head m) (link m) good.shape.lists l (pushed_head v d) (d ∷ good.shape.lists l) s.lists follows;
          placed = record {
            one_place = λ e. let old = s.placed.one_place e in let a = off_list 0 e (λ z. some (sym z)) in
                let b = lists_are e in let c = classed_are e in omega arith;
          };
          untaken = record {
            blank = λ e past below_c. let b = s.untaken.blank e past below_c in
                record { volatile = b.volatile; durable = b.durable };
          };
          listed = record {
            free = λ e here. s.listed.free e (let a = off_list 0 e (λ z. some (sym z)) in omega arith);
            in_class = in_class;
            is_full = s.listed.is_full;
          };
          chained = subst (λ c. AreChained k.capacity (info m) (anchor m) (next m) good.shape.chains c (tally_of views).blocks) cut_same s.chained;
          durable = (let x = s.durable in record {
            behind = x.behind;
            room = x.room;
            below = λ e here. x.below e (let a = off_list 0 e (λ z. some (sym z)) in let b = lists_are e in let c = classed_are e in omega arith);
            infos = λ e here. x.infos e (let b = lists_are e in let c = classed_are e in omega arith);
          });
        }))
        mine (λ j x other b a. others x) (adds_at_head k m views i v w below_i at good.adds l (pushed_head v d) is_list
        (let p = (PushRawLemmas.parts_of_head k m views i v below_i at good ticket d may as_seen).1 in omega arith) refl refl refl refl refl)
        (record { mine = stale_less w refl refl refl refl (λ e other. omega arith); more = omega arith })
        (λ j x other b a. let e = stale_head_most m' x.seen_head in omega arith)
        (let old = good.moves in let gives = total_same (λ (x : View). x.gives) views i v w below_i at refl in
        let moves = total_same (λ (x : View). x.moves) views i v w below_i at (ap (λ t. cond t (v.moves + 1) v.moves) (ne_eqb l 0 some)) in
        let empty = ap (λ (t : Tally). empties k.capacity (anchor m) (times_parked g' t)) tally in
        let same = ap (empties k.capacity (anchor m)) parked_same in omega arith) where
          lists_are : (e : ℕ) → times_in_lists g' e ≡ times_in_lists good.shape e + one_if (nat_eq d e)
          lists_are e = let a = in_lists_set e good.shape.lists l (d ∷ good.shape.lists l) is_list some in omega arith

          cut_same : times_cut good.shape (tally_of views) ≡ times_cut g' t'
          cut_same = λ j e. (let z : times_cut good.shape (tally_of views) e ≡ times_cut g' t' e = (let b = lists_are e in
              let c = classed_are e in omega arith) in z) j

          parked_same : times_parked g' t' ≡ times_parked good.shape (tally_of views)
          parked_same = λ j e. (let z : times_parked g' t' e ≡ times_parked good.shape (tally_of views) e = (let b = lists_are e in
              let c = classed_are e in omega arith) in z) j

          in_class : (class e : ℕ) → IsClass class → 0 < times e (relist good.shape.lists l (d ∷ good.shape.lists l) class) → (info m e ≡ class)
              × (anchor_state (anchor m e) < full_state)
          in_class class e is_class here = elim (cases_eq class l) [
            | inl same ↦ elim (cases_eq d e) [
              | inl it ↦ subst (λ x. (info m x ≡ class) × (anchor_state (anchor m x) < full_state)) it (
                is
                    ∙ sym same,
                (seat.claims.is_classed d claimed).2,
              )
              | inr other ↦ good.shaped.listed.in_class class e is_class (let a = at_list class e same in let n = ne-eqb-none d e other in omega arith)
            ]
            | inr apart ↦ good.shaped.listed.in_class class e is_class (let a = off_list class e apart in omega arith)
          ]

    -- all of its blocks are in its chain
    empty_home : anchor_state (anchor m d) ≡ empty_state → (b : ℕ) → IsCutBlock k.capacity (info m d) d b → (tally_of views).blocks b ≡ 0
    empty_home empty b at_b =
        let c = good.shaped.chained in
        let cut_d = claimed_is_cut good.shape views i v d below_i at claimed in
        let anchored = c.anchored d cut_d in
        let one = all_home k.capacity (info m d) d (good.shape.chains d) (c.is_class d cut_d) (anchored.empty.0 empty)
        (λ x some. c.chained d x cut_d some)
        (λ x at_x. let o = c.owned d x cut_d at_x in omega arith) b at_b in
        let o = c.owned d b cut_d at_b in omega arith

    -- an empty one goes to the list of the free ones
    push_moved : l ≡ 0 → anchor_state (anchor m d) ≡ empty_state → Good k m' (set views i w)
    push_moved is empty = good_step k m m' views i v w good g' below_i at
        (subst (IsInShape k.capacity m' g') (sym tally) (let s = good.shaped in record {
          lists = lists_set k.capacity (head m) (link m) good.shape.lists l (pushed_head v d) (d ∷ good.shape.lists l) s.lists follows;
          placed = record {
            one_place = λ e. let old = s.placed.one_place e in let a = at_list 0 e (sym is) in let b = lists_are e in
                let c = classed_are e in omega arith;
          };
          untaken = record {
            blank = λ e past below_c. let b = s.untaken.blank e past below_c in
                record { volatile = b.volatile; durable = b.durable };
          };
          listed = record {
            free = λ e here. elim (cases_eq d e) as (λ _. anchor_state (anchor m e) ≡ empty_state) [
              | inl same ↦ subst (λ x. anchor_state (anchor m x) ≡ empty_state) same empty
              | inr other ↦ s.listed.free e (let a = at_list 0 e (sym is) in let z = ne-eqb-none d e other in omega arith)
            ];
            in_class = λ class e is_class here. s.listed.in_class class e is_class
                (let a = off_list class e (λ z. let y = is_class.some in omega (arith, z, is, y)) in omega arith);
            is_full = s.listed.is_full;
          };
          chained = (let c = s.chained in record {
            is_class = λ e some. c.is_class e (let f = cut_are e in omega arith);
            anchored = λ e some. c.anchored e (let f = cut_are e in omega arith);
            owned = λ e b some. c.owned e b (let f = cut_are e in omega arith);
            chained = λ e b some. c.chained e b (let f = cut_are e in omega arith);
            inside = λ b some. let old = c.inside b some in (
              elim (cases_eq d (superblock_of k.capacity b)) as (λ _. 0 < times_cut g' t' (superblock_of k.capacity b)) [
                | inl same ↦ absurd (let none = empty_home empty b (subst (λ x. IsCutBlock k.capacity (info m x) x b) (sym same) old.1) in omega arith)
                | inr other ↦ let f = cut_are (superblock_of k.capacity b) in let z = ne-eqb-none d (superblock_of k.capacity b) other in
                    let o = old.0 in omega arith
              ],
              old.1,
            );
          });
          durable = (let x = s.durable in record {
            behind = x.behind;
            room = x.room;
            below = λ e here. elim (cases_eq d e) as (λ _. e < durable_used m) [
              | inl same ↦ subst (λ y. y < durable_used m) same may.durable
              | inr other ↦ x.below e (let a = at_list 0 e (sym is) in let z = ne-eqb-none d e other in let b = cut_are e in omega arith)
            ];
            infos = λ e here. x.infos e (let b = cut_are e in omega arith);
          });
        }))
        mine (λ j x other b a. others x) (adds_at_head k m views i v w below_i at good.adds l (pushed_head v d) is_list
        (let p = (PushRawLemmas.parts_of_head k m views i v below_i at good ticket d may as_seen).1 in omega arith) refl refl refl refl refl)
        (record { mine = stale_less w refl refl refl refl (λ e other. omega arith); more = omega arith })
        (λ j x other b a. let e = stale_head_most m' x.seen_head in omega arith)
        (let old = good.moves in let gives = total_same (λ (x : View). x.gives) views i v w below_i at refl in
        let moves = total_set (λ (x : View). x.moves) views i v w below_i at in let one_more = ap (λ t. cond t (v.moves + 1) v.moves) (eq-eqb l 0 is) in
        let now = ap (λ (t : Tally). empties k.capacity (anchor m) (times_parked g' t)) tally in let less = empties_less in omega arith) where
          lists_are : (e : ℕ) → times_in_lists g' e ≡ times_in_lists good.shape e
          lists_are e = total_unchanged (λ n. times e (good.shape.lists n))
              (λ n. times e (relist good.shape.lists l (d ∷ good.shape.lists l) n)) 0 class_numbers (λ n other. off_list n e (λ z. other (z ∙ is))) refl

          cut_are : (e : ℕ) → times_cut g' t' e + one_if (nat_eq d e) ≡ times_cut good.shape (tally_of views) e
          cut_are e = let b = lists_are e in let c = classed_are e in omega arith

          old_at : ℕ → ℕ
          old_at e = one_if (nat_lt 0 (times_parked good.shape (tally_of views) e) && nat_eq (anchor_state (anchor m e)) empty_state)

          new_at : ℕ → ℕ
          new_at e = one_if (nat_lt 0 (times_parked g' t' e) && nat_eq (anchor_state (anchor m e)) empty_state)

          below_limit : (n limit : ℕ) → below n limit ≤ 1
          below_limit n limit = one_at_most (nat_lt n limit)

          empties_less : empties k.capacity (anchor m) (times_parked g' t') + 1 ≡ empties k.capacity (anchor m)
              (times_parked good.shape (tally_of views))
          empties_less =
              let step = total_change old_at new_at d (steps 0 1 k.capacity)
              (λ e other. ap (λ n. one_if (nat_lt 0 n && nat_eq (anchor_state (anchor m e)) empty_state))
              (let z : times_parked g' t' e ≡ times_parked good.shape (tally_of views) e = (let b = lists_are e in let c = classed_are e in
              let n = ne-eqb-none d e (λ q. other (sym q)) in omega arith) in z))
              (let t = times_steps d 0 k.capacity in let a = below_not d 0 (omega arith) in
              let b = below_is d (0 + k.capacity) (let z = small_d in omega arith) in omega arith) in
              let was : old_at d ≡ 1 = one_if_true (nat_lt 0 (times_parked good.shape (tally_of views) d) && nat_eq
              (anchor_state (anchor m d)) empty_state)
              (and_is (nat_lt 0 (times_parked good.shape (tally_of views) d)) (nat_eq (anchor_state (anchor m d)) empty_state)
              (lt-ltb 0 (times_parked good.shape (tally_of views) d) (let c =
              total_at (λ (x : View). times_classed d x.classed) views i v below_i at in omega arith))
              (eq-eqb (anchor_state (anchor m d)) empty_state empty)) in
              let is_none : times_parked g' t' d ≡ 0 = (let a = good.shaped.placed.one_place d in let limit = below_limit d (used m) in
              let b = lists_are d in let c = classed_are d in let n = eq-eqb-one d d refl in omega arith) in
              let now : new_at d ≡ 0 = ap (λ n. one_if (nat_lt 0 n && nat_eq (anchor_state (anchor m d)) empty_state)) is_none in omega arith

  pub push : Good k m' (set views i (pushed v d))
  push = by_kind l refl may.listed where
    by_kind : (n : ℕ) → n ≡ l → MayList m v d n → Good k m' (set views i (pushed v d))
    by_kind n same (as_free list zero_list claimed empty) = elim (cases_lt 0 (times d v.raw + times d v.split)) [
      | inl raw ↦ subst (λ t. Good k m' (set views i (cond t (pushed_raw v d) (pushed_classed v d))))
          (sym (lt-ltb 0 (times d v.raw + times d v.split) raw)) (push_raw raw (sym same ∙ zero_list) empty)
      | inr not_raw ↦ subst (λ t. Good k m' (set views i (cond t (pushed_raw v d) (pushed_classed v d))))
          (sym (not-lt 0 (times d v.raw + times d v.split) not_raw))
          (push_moved (let c = claimed.claimed in let z = claimed.not_cutting in omega arith) (sym same ∙ zero_list) empty)
    ]
    by_kind n same (of_its_class list some claimed info_is state) =
        subst (λ t. Good k m' (set views i (cond t (pushed_raw v d) (pushed_classed v d))))
        (sym (not-lt 0 (times d v.raw + times d v.split) (let most = one_claim d in omega arith)))
        (push_class claimed (λ z. some (same ∙ z)) (info_is ∙ same))
