-- A pop: the first descriptor of a list is claimed, with the class of the list where it has one.
use Rattle.std.proofs.Common.{◌≡◌, ◌≢◌, ℕ, zero, suc, ◌+◌, ◌<◌, ◌≤◌, max, inl, inr, cond, nat_eq, List, get_or, set, length, None, refl, ap, sym, subst, eq-eqb, ne_eqb, arith}
use Rattle.std.proofs.lemmas.Bool.{cases_eq}
use Rattle.heap_model.specs.Sizes.{IsClass}
use Rattle.heap_model.specs.Words.{head_first, head_pops, anchor_state, full_state}
use Rattle.heap_model.specs.Chains.{Follows}
use Rattle.heap_model.specs.Counting.{times, total, one_if}
use Rattle.core_model.specs.Cells.{head_cell}
use Rattle.core_model.specs.Memory.{Memory, head, anchor, info, link, next}
use Rattle.core_model.specs.View.{Setup, View, times_raw, times_classed, times_claimed, times_large, times_block}
use Rattle.core_model.specs.Effects.{seen_word, seen_of, cleared, claim_class, claimed, popped_head}
use Rattle.core_model.specs.Guards.{IsThere, MayPop}
use Rattle.core_model.specs.Sound.{CoreShape, Tally, tally_of, IsInShape, AreChained, Knows, KnowsHead, stale, times_in_lists, times_parked, times_cut, empties, Good}
use Rattle.core_model.proofs.TotalLemmas.{total_set, total_same, ne-eqb-none}
use Rattle.core_model.proofs.FrameLemmas.{untouched, words_frame}
use Rattle.core_model.proofs.EventStepLemmas.{IsSeat, good_step}
use Rattle.core_model.proofs.OwnLemmas.{own_grows, words_grow, stale_head_most, won_tickets}
use Rattle.core_model.proofs.ListLemmas.{relist, relist_other, IsFirst, lists_set, in_lists_set, knows_pop, others_at_head, adds_at_head}
use Rattle.core_model.proofs.PopFreeLemmas

module _ (k : Setup) (m : Memory) (views : List View) (i : ℕ) (v : View) (below_i : i < length views) (at : get_or views i v ≡ v)
    (good : Good k m views)
    (ticket : IsThere v.ticket) (may : MayPop v) (as_seen : head m (seen_of v.seen_head) ≡ seen_word v.seen_head) where
  abbrev seat : IsSeat k m good.shape v
  seat = PopFreeLemmas.seat k m views i v below_i at good ticket may as_seen

  abbrev l : ℕ
  l = PopFreeLemmas.l k m views i v below_i at good ticket may as_seen

  abbrev d : ℕ
  d = PopFreeLemmas.d k m views i v below_i at good ticket may as_seen

  abbrev m' : Memory
  m' = PopFreeLemmas.m' k m views i v below_i at good ticket may as_seen

  abbrev base : View
  base = PopFreeLemmas.base k m views i v below_i at good ticket may as_seen

  abbrev known_head : KnowsHead k.capacity (head m) (link m) good.shape.lists l
      (PopFreeLemmas.word k m views i v below_i at good ticket may as_seen) v.seen_link
  known_head = PopFreeLemmas.known_head k m views i v below_i at good ticket may as_seen

  abbrev first : IsFirst (link m) k.capacity (head_first (PopFreeLemmas.word k m views i v below_i at good ticket may as_seen)) (good.shape.lists l)
  first = PopFreeLemmas.first k m views i v below_i at good ticket may as_seen

  abbrev follows : Follows (link m) k.capacity (head_first (popped_head v)) first.rest
  follows = PopFreeLemmas.follows k m views i v below_i at good ticket may as_seen

  abbrev g' : CoreShape
  g' = PopFreeLemmas.g' k m views i v below_i at good ticket may as_seen

  abbrev at_list : (e : ℕ) → times e (good.shape.lists l) ≡ one_if (nat_eq d e) + times e first.rest
  at_list = PopFreeLemmas.at_list k m views i v below_i at good ticket may as_seen

  abbrev fewer : (n e : ℕ) → times e (relist good.shape.lists l first.rest n) ≤ times e (good.shape.lists n)
  fewer = PopFreeLemmas.fewer k m views i v below_i at good ticket may as_seen

  abbrev there : 0 < times d (good.shape.lists l)
  there = PopFreeLemmas.there k m views i v below_i at good ticket may as_seen

  abbrev knows_after : (w : View) → w.seen_head ≡ None → w.seen_used ≡ v.seen_used → w.used_look ≡ v.used_look → w.taken ≡ v.taken → w.batch ≡ v.batch
      → w.seen_anchor ≡ cleared d 1 v.seen_anchor
      → ((e : ℕ) → times_claimed e v ≤ times_claimed e w) → ((e : ℕ) → d ≢ e → times_classed e w.classed ≡ times_classed e v.classed)
      → w.floor ≡ max v.floor (d + 1)
      → Knows k.capacity m' g' w
  knows_after = PopFreeLemmas.knows_after k m views i v below_i at good ticket may as_seen

  abbrev stale_less : (w : View) → w.losses ≡ v.losses → w.seen_head ≡ None → w.seen_used ≡ v.seen_used → w.seen_anchor ≡ cleared d 1 v.seen_anchor
      → ((e : ℕ) → times_raw e v ≤ times_raw e w)
      → w.losses + stale m' w ≤ v.losses + stale m v
  stale_less = PopFreeLemmas.stale_less k m views i v below_i at good ticket may as_seen

  abbrev one_pop : head_pops (popped_head v) ≡ head_pops (head m l) + 1
  one_pop = PopFreeLemmas.one_pop k m views i v below_i at good ticket may as_seen

  -- from the list of a class it is claimed with the class
  pop_class : (c : ℕ) → l ≡ suc c → Good k m' (set views i (claimed base d (suc c)))
  pop_class c is = good_step k m m' views i v w good g' below_i at
      (subst (IsInShape k.capacity m' g') (sym tally) (let s = good.shaped in record {
        lists = lists_set k.capacity (head m) (link m) good.shape.lists l (popped_head v) first.rest s.lists follows;
        placed = record { one_place = λ e. let old = s.placed.one_place e in let a = free_is e in let b = lists_are e in omega arith };
        untaken = record { blank = λ e past below_c. let b = s.untaken.blank e past below_c in record { volatile = b.volatile; durable = b.durable } };
        listed = record {
          free = λ e some. s.listed.free e (let f = fewer 0 e in omega arith);
          in_class = λ class e is_class some. s.listed.in_class class e is_class (let f = fewer class e in omega arith);
          is_full = s.listed.is_full;
        };
        chained = subst (λ x. AreChained k.capacity (info m) (anchor m) (next m) good.shape.chains x (tally_of views).blocks) cut_same s.chained;
        durable = (let x = s.durable in record {
          behind = x.behind;
          room = x.room;
          below = λ e some. x.below e (let f = fewer 0 e in let b = lists_are e in omega arith);
          infos = λ e some. x.infos e (let b = lists_are e in omega arith);
        });
      }))
      (let s = seat.set_up in record {
        set_up = record {
          setup = s.setup;
          roots = s.roots;
          small = s.small;
          caches = s.caches;
          looks = s.looks;
          volatile = s.volatile;
          durable = s.durable;
        };
        claims = (let x = seat.claims in record {
          is_raw = x.is_raw;
          is_split = x.is_split;
          is_cutting = x.is_cutting;
          is_classed = is_classed;
          is_large = x.is_large;
          is_part = x.is_part;
          some = x.some;
        });
        blocks = seat.blocks;
        knows = knows_after w refl refl refl refl refl refl (λ e. omega arith) (λ e other. let n = ne-eqb-none d e other in omega arith) refl;
        words = words_frame k.capacity m m' w (λ cell own. untouched w m.volatile (head_cell l) (popped_head v) cell refl own) (λ cell own. refl)
            (words_grow k.capacity m v w refl refl (own_grows v w refl (λ e. omega arith) (λ e. omega arith) (λ e. omega arith)) seat.words);
        tickets = won_tickets k.budget m.drawn v w seat.tickets ticket refl refl (omega arith) refl refl refl refl refl refl refl (omega arith);
      })
      (λ j x other b a. others_at_head k m good.shape l (popped_head v) first.rest
      (knows_pop k.capacity (head m) (link m) good.shape.lists l (popped_head v) first.rest (let p = one_pop in omega arith)) x)
      (adds_at_head k m views i v w below_i at good.adds l (popped_head v) known_head.is_list (let p = one_pop in omega arith) refl refl refl refl refl)
      (record { mine = stale_less w refl refl refl refl (λ e. omega arith); more = omega arith })
      (λ j x other b a. let e = stale_head_most m' x.seen_head in omega arith)
      (let old = good.moves in let gives = total_same (λ (x : View). x.gives) views i v w below_i at refl in
      let moves = total_same (λ (x : View). x.moves) views i v w below_i at refl in
      let empty = ap (λ (t : Tally). empties k.capacity (anchor m) (times_parked g' t)) tally in
      let same = ap (empties k.capacity (anchor m)) parked_same in omega arith) where
        w : View
        w = claimed base d (suc c)

        classed' : ℕ → ℕ
        classed' e = total (λ (x : View). times_classed e x.classed) views + one_if (nat_eq d e)

        t' : Tally
        t' = record (tally_of views) { classed = classed' }

        tally : tally_of (set views i w) ≡ t'
        tally = λ j. record {
          raw = λ e. (total_same (times_raw e) views i v w below_i at refl) j;
          classed = λ e. (let z : total (λ (x : View). times_classed e x.classed) (set views i w) ≡ classed' e =
              (let s = total_set (λ (x : View). times_classed e x.classed) views i v w below_i at in omega arith) in z) j;
          large = λ e. (total_same (λ (x : View). times_large e x.large) views i v w below_i at refl) j;
          blocks = λ b. (total_same (times_block b) views i v w below_i at refl) j;
        }

        some_class : l ≢ 0
        some_class e = omega (arith, e, is)

        free_is : (e : ℕ) → times e (relist good.shape.lists l first.rest 0) ≡ times e (good.shape.lists 0)
        free_is e = ap (times e) (relist_other good.shape.lists l first.rest 0 (λ z. some_class (sym z)))

        lists_are : (e : ℕ) → times_in_lists g' e + one_if (nat_eq d e) ≡ times_in_lists good.shape e
        lists_are e = let a = in_lists_set e good.shape.lists l first.rest known_head.is_list some_class in let b = at_list e in omega arith

        cut_same : times_cut good.shape (tally_of views) ≡ times_cut g' t'
        cut_same = λ j e. (let z : times_cut good.shape (tally_of views) e ≡ times_cut g' t' e = (let b = lists_are e in omega arith) in z) j

        parked_same : times_parked g' t' ≡ times_parked good.shape (tally_of views)
        parked_same = λ j e. (let z : times_parked g' t' e ≡ times_parked good.shape (tally_of views) e = (let b = lists_are e in omega arith) in z) j

        of_class : IsClass (suc c) × (info m d ≡ suc c) × (anchor_state (anchor m d) < full_state)
        of_class = let small = known_head.is_list in let class : IsClass (suc c) = record { some = omega arith; last = omega arith } in
            let here = good.shaped.listed.in_class (suc c) d class (subst (λ x. 0 < times d (good.shape.lists x)) is there) in (class, here.0, here.1)

        is_classed : (e : ℕ) → 0 < times_classed e w.classed → IsClass (claim_class e w.classed) × (info m e ≡ claim_class e w.classed)
            × (anchor_state (anchor m e) < full_state)
        is_classed e some = elim (cases_eq d e) [
          | inl same ↦ subst (λ t. IsClass (cond t (suc c) (claim_class e v.classed)) × (info m e ≡ cond t (suc c) (claim_class e v.classed))
              × (anchor_state (anchor m e) < full_state)) (sym (eq-eqb d e same))
              (subst (λ x. IsClass (suc c) × (info m x ≡ suc c) × (anchor_state (anchor m x) < full_state)) same of_class)
          | inr other ↦ subst (λ t. IsClass (cond t (suc c) (claim_class e v.classed)) × (info m e ≡ cond t (suc c) (claim_class e v.classed))
              × (anchor_state (anchor m e) < full_state)) (sym (ne_eqb d e other))
              (seat.claims.is_classed e (let n = ne-eqb-none d e other in omega arith))
        ]

  pub pop : Good k m' (set views i (claimed base d l))
  pop = by_list l refl where
    by_list : (n : ℕ) → l ≡ n → Good k m' (set views i (claimed base d n))
    by_list zero is = PopFreeLemmas.pop_free k m views i v below_i at good ticket may as_seen is
    by_list (suc c) is = pop_class c is
