-- All free blocks of a superblock are taken into the cache of its class.
use Rattle.std.proofs.Common.{◌≡◌, ◌≢◌, ℕ, ◌+◌, ◌*◌, ◌<◌, inl, inr, Bool, true, false, cond, ◌&&◌, nat_eq, nat_lt, List, [], get_or, set, length, None, refl, ap, ap₂, sym, subst, ◌∙◌, ne_eqb, length-set, arith}
use Rattle.std.proofs.lemmas.Bool.{cases_eq, cases_lt}
use Rattle.heap_model.specs.Geometry.{start_word, superblock_of}
use Rattle.heap_model.specs.Sizes.{IsClass, words_of_class}
use Rattle.heap_model.specs.Words.{anchor_state, anchor_first, anchor_count, empty_state, full_anchor}
use Rattle.heap_model.specs.Chains.{Walks}
use Rattle.heap_model.specs.Counting.{times, total, one_if}
use Rattle.core_model.specs.Cells.{anchor_cell}
use Rattle.core_model.specs.Memory.{Memory, volatile_at, anchor, info, next, write}
use Rattle.core_model.specs.View.{Setup, View, of_class, times_raw, times_classed, times_large, times_block}
use Rattle.core_model.specs.Effects.{seen_word, steps, chain, first_of, claim_class, without_claim, won, taken_all, anchored_blocks}
use Rattle.core_model.specs.Guards.{IsThere, MayTakeAll}
use Rattle.core_model.specs.Sound.{CoreShape, Tally, tally_of, IsInShape, IsCutBlock, IsAnchoredBy, AreChained, HasBlocks, times_parked, times_cut, empties, Good}
use Rattle.core_model.proofs.TotalLemmas.{total_set, total_same, total_at, total_two, total_alike, eq-eqb-one, ne-eqb-none}
use Rattle.core_model.proofs.EventStepLemmas.{IsSeat, seat_at, good_step}
use Rattle.core_model.proofs.OwnLemmas.{won_tickets, length_only}
use Rattle.core_model.proofs.QuietLemmas.{not_there}
use Rattle.core_model.proofs.CountLemmas.{times_without_claim, claims_without, claimed_is_cut, all_without_claim}
use Rattle.core_model.proofs.BlockLemmas.{superblock_is, walks_chain, walks_first, full_anchored, at_one, at_other, of_class_same, of_class_other, total_lists}
use Rattle.core_model.proofs.AnchorLemmas as on_anchor

module _ (k : Setup) (m : Memory) (views : List View) (i : ℕ) (v : View) (below_i : i < length views) (at : get_or views i v ≡ v)
    (good : Good k m views)
    (ticket : IsThere v.ticket) (d : ℕ) (may : MayTakeAll v d) (as_seen : anchor m d ≡ seen_word v.seen_anchor) where
  seat : IsSeat k m good.shape v
  seat = seat_at k m views good i v below_i at

  abbrev class : ℕ
  class = claim_class d v.classed

  abbrev blocks : List ℕ
  blocks = anchored_blocks m v.setup.capacity class d (seen_word v.seen_anchor)

  abbrev m' : Memory
  m' = write m (volatile_at (anchor_cell d)) full_anchor

  abbrev base : View
  base = record (won v) { caches = set v.caches class blocks; classed = without_claim d v.classed; seen_anchor = None }

  abbrev w : View
  w = taken_all m v d

  abbrev g' : CoreShape
  g' = record good.shape { full = λ e. good.shape.full e + one_if (nat_eq d e); chains = λ e. cond (nat_eq e d) [] (good.shape.chains e) }

  cap : v.setup.capacity ≡ k.capacity
  cap = ap (λ (s : Setup). s.capacity) seat.set_up.setup

  -- its class, and that it is cut
  claim : IsClass class × (info m d ≡ class) × (0 < times_cut good.shape (tally_of views) d)
  claim = let has = seat.claims.is_classed d may.claimed in (has.0, has.1, claimed_is_cut good.shape views i v d below_i at may.claimed)

  -- the cache gets the chain
  blocks_are : blocks ≡ good.shape.chains d
  blocks_are = let anchored = on_anchor.anchored k m views i v below_i at good d full_anchor claim.2 class claim.1 in
      ap (λ c. chain (next m) (start_word c d + anchor_first (seen_word v.seen_anchor) * words_of_class class)
      (anchor_count (seen_word v.seen_anchor))) cap
      ∙ ap (λ a. chain (next m) (start_word k.capacity d + anchor_first a * words_of_class class) (anchor_count a)) (sym as_seen)
      ∙ ap (chain (next m) (start_word k.capacity d + anchor_first (anchor m d) * words_of_class class)) anchored.count
      ∙ walks_chain (next m) (start_word k.capacity d + anchor_first (anchor m d) * words_of_class class) (good.shape.chains d) anchored.walks

  small_class : class < length v.caches
  small_class = let c = seat.set_up.caches in let last = claim.0.last in omega arith

  blocks_more : (b : ℕ) → times_block b w ≡ times_block b v + times b (good.shape.chains d)
  blocks_more b = let t = total_lists b v.caches class blocks small_class in let none = ap (times b) may.uncached in
      let s = ap (times b) blocks_are in omega arith

  abbrev classed' : ℕ → ℕ
  classed' e = total (λ (x : View). times_classed e x.classed) (set views i w)

  abbrev blocks' : ℕ → ℕ
  blocks' b = total (times_block b) (set views i w)

  abbrev t' : Tally
  t' = record (tally_of views) { classed = classed'; blocks = blocks' }

  all_blocks : (b : ℕ) → blocks' b ≡ total (times_block b) views + times b (good.shape.chains d)
  all_blocks b = let s = total_set (times_block b) views i v w below_i at in let z = blocks_more b in omega arith

  tally : tally_of (set views i w) ≡ t'
  tally = λ j. record {
    raw = λ e. (total_same (times_raw e) views i v w below_i at refl) j;
    classed = classed';
    large = λ e. (total_same (λ (x : View). times_large e x.large) views i v w below_i at refl) j;
    blocks = blocks';
  }

  cut_same : (e : ℕ) → times_cut g' t' e ≡ times_cut good.shape (tally_of views) e
  cut_same e = let c = all_without_claim e d views i v w below_i at may.claimed refl in omega arith

  -- a block of the chain lies in the superblock
  in_chain : (b : ℕ) → 0 < times b (good.shape.chains d) → IsCutBlock k.capacity class d b × (superblock_of k.capacity b ≡ d)
  in_chain b some = let c = subst (λ x. IsCutBlock k.capacity x d b) claim.1 (good.shaped.chained.chained d b claim.2 some) in
      (c, superblock_is k.capacity class d b claim.0 c)

  chained : AreChained k.capacity (info m) (anchor m') (next m) g'.chains (times_cut g' t') blocks'
  chained = let c = good.shaped.chained in record {
    is_class = λ e some. c.is_class e (let z = cut_same e in omega arith);
    anchored = λ e some. elim (cases_eq e d) as (λ _. IsAnchoredBy (next m) k.capacity (info m e) e (anchor m' e) (g'.chains e)) [
      | inl same ↦ subst (λ x. IsAnchoredBy (next m) k.capacity (info m e) e x (g'.chains e)) (sym (at_one (anchor m) d full_anchor e same))
          (subst (IsAnchoredBy (next m) k.capacity (info m e) e full_anchor) (sym (at_one good.shape.chains d [] e same))
          (full_anchored (next m) k.capacity (info m e) e (c.is_class e (let z = cut_same e in omega arith))))
      | inr other ↦ subst (λ x. IsAnchoredBy (next m) k.capacity (info m e) e x (g'.chains e)) (sym (at_other (anchor m) d full_anchor e other))
          (subst (IsAnchoredBy (next m) k.capacity (info m e) e (anchor m e)) (sym (at_other good.shape.chains d [] e other))
          (c.anchored e (let z = cut_same e in omega arith)))
    ];
    owned = λ e b some is. let cut_e : 0 < times_cut good.shape (tally_of views) e = (let z = cut_same e in omega arith) in
        let old = c.owned e b cut_e is in let all = all_blocks b in
        elim (cases_eq e d) as (λ _. times b (g'.chains e) + blocks' b ≡ 1) [
          | inl same ↦ let none = ap (times b) (at_one good.shape.chains d [] e same) in let z = ap (λ x. times b (good.shape.chains x)) same in
              omega arith
          | inr other ↦ let same_chain = ap (times b) (at_other good.shape.chains d [] e other) in
              let none : times b (good.shape.chains d) ≡ 0 = elim (cases_lt 0 (times b (good.shape.chains d))) [
                | inl there ↦ absurd (other (sym (superblock_is k.capacity (info m e) e b (c.is_class e cut_e) is) ∙ (in_chain b there).1))
                | inr not_there ↦ omega arith
              ] in omega arith
        ];
    chained = λ e b some there. elim (cases_eq e d) as (λ _. IsCutBlock k.capacity (info m e) e b) [
      | inl same ↦ absurd (let none = ap (times b) (at_one good.shape.chains d [] e same) in omega arith)
      | inr other ↦ c.chained e b (let z = cut_same e in omega arith) (let z = ap (times b) (at_other good.shape.chains d [] e other) in omega arith)
    ];
    inside = λ b some. elim (cases_lt 0 (total (times_block b) views)) [
      | inl old ↦ let o = c.inside b old in (let z = cut_same (superblock_of k.capacity b) in let y = o.0 in omega arith, o.1)
      | inr none ↦ let here = in_chain b (let all = all_blocks b in omega arith) in (
        subst (λ x. 0 < times_cut g' t' x) (sym here.1) (let z = cut_same d in let y = claim.2 in omega arith),
        subst (λ x. IsCutBlock k.capacity (info m x) x b) (sym here.1) (subst (λ x. IsCutBlock k.capacity x d b) (sym claim.1) here.0),
      )
    ];
  }

  -- its blocks are of the class, and linked
  blocks_of_seat : HasBlocks v.setup.capacity (info m) (next m) v.small (set v.caches class blocks) v.batch
  blocks_of_seat = let s = seat.blocks in let anchored = on_anchor.anchored k m views i v below_i at good d full_anchor claim.2 class claim.1 in
      record {
        held = s.held;
        cached = λ n b some. elim (cases_eq n class) as (λ _. info m (superblock_of v.setup.capacity b) ≡ n) [
          | inl same ↦ let in_blocks = ap (times b) (of_class_same v.caches class blocks n same small_class ∙ blocks_are) in
              let here = in_chain b (omega arith) in ap (λ c. info m (superblock_of c b)) cap ∙ ap (info m) here.1 ∙ claim.1 ∙ sym same
          | inr other ↦ s.cached n b (let z = ap (times b) (of_class_other v.caches class blocks n other) in omega arith)
        ];
        batched = s.batched;
        cache_linked = λ n. elim (cases_eq n class) as (λ _. Walks (next m) (first_of (of_class (set v.caches class blocks) n))
            (of_class (set v.caches class blocks) n)) [
              | inl same ↦ subst (λ bs. Walks (next m) (first_of bs) bs) (sym (of_class_same v.caches class blocks n same small_class ∙ blocks_are))
                  (walks_first (next m) (start_word k.capacity d + anchor_first (anchor m d) * words_of_class class) (good.shape.chains d) anchored.walks)
              | inr other ↦ subst (λ bs. Walks (next m) (first_of bs) bs) (sym (of_class_other v.caches class blocks n other)) (s.cache_linked n)
            ];
        batch_linked = s.batch_linked;
      }

  once : times_classed d v.classed ≡ 1
  once = let some = may.claimed in let p = (on_anchor.alone k m views i v below_i at good d full_anchor claim.2).0 in
      let t = total_at (λ (u : View). times_classed d u.classed) views i v below_i at in omega arith

  gone : times_classed d w.classed ≡ 0
  gone = let z = times_without_claim d d v.classed may.claimed in let o = eq-eqb-one d d refl in let one = once in omega arith

  mine : IsSeat k m' g' w
  mine = let s = seat.set_up in let none = on_anchor.not_here k m views i v below_i at good d full_anchor claim.2 i v below_i at in
      let zero_raw = none.0 in record {
        set_up = record {
          setup = s.setup;
          roots = s.roots;
          small = s.small;
          caches = length-set v.caches class blocks ∙ s.caches;
          looks = s.looks;
          volatile = length_only base 0 v.volatile ∙ s.volatile;
          durable = length_only base 0 v.durable ∙ s.durable;
        };
        claims = on_anchor.claims_anchor (info m) (anchor m) d full_anchor v.raw v.split v.cutting (without_claim d v.classed) v.large (omega arith)
            (omega arith) (omega arith) none.1
            (λ some. absurd (let z = gone in omega arith))
            (claims_without (info m) (anchor m) v.raw v.split v.cutting v.classed v.large d once seat.claims);
        blocks = blocks_of_seat;
        knows = (let n = seat.knows in record {
          seen_head = n.seen_head;
          seen_used = n.seen_used;
          looked = n.looked;
          seen_anchor = λ e. absurd (not_there e);
          seen_empty = λ e. absurd (not_there e);
          floor = n.floor;
        });
        words = on_anchor.words_after k m views i v below_i at good d full_anchor claim.2 base refl refl refl;
        tickets = won_tickets k.budget m.drawn v w seat.tickets ticket refl refl (omega arith) refl refl refl refl refl refl refl (omega arith);
      }

  empties_same : empties k.capacity (anchor m') (times_parked g' t') ≡ empties k.capacity (anchor m) (times_parked good.shape (tally_of views))
  empties_same = total_alike (λ e. one_if (nat_lt 0 (times_parked g' t' e) && nat_eq (anchor_state (anchor m' e)) empty_state))
      (λ e. one_if (nat_lt 0 (times_parked good.shape (tally_of views) e) && nat_eq (anchor_state (anchor m e)) empty_state)) (steps 0 1 k.capacity)
      (λ e. elim (cases_eq e d) as (λ _. one_if (nat_lt 0 (times_parked g' t' e) && nat_eq (anchor_state (anchor m' e)) empty_state) ≡ one_if
      (nat_lt 0 (times_parked good.shape (tally_of views) e) && nat_eq (anchor_state (anchor m e)) empty_state)) [
        | inl same ↦ not_empty (nat_lt 0 (times_parked g' t' e)) (anchor m' e) (ap anchor_state (at_one (anchor m) d full_anchor e same) ∙ two)
            (λ z. omega (arith, z))
            ∙ sym (not_empty (nat_lt 0 (times_parked good.shape (tally_of views) e)) (anchor m e) (ap (λ x. anchor_state (anchor m x)) same
            ∙ ap anchor_state as_seen ∙ may.partial) (λ z. omega (arith, z)))
        | inr other ↦ ap₂ (λ n a. one_if (nat_lt 0 n && nat_eq (anchor_state a) empty_state))
            (let z : times_parked g' t' e ≡ times_parked good.shape (tally_of views) e =
            (let c = all_without_claim e d views i v w below_i at may.claimed refl in let n = ne-eqb-none d e (λ q. other (sym q)) in
            omega arith) in z) (at_other (anchor m) d full_anchor e other)
      ]) where
        two : anchor_state 2 ≡ 2
        two = omega arith

        not_empty : (test : Bool) (word : ℕ) {state : ℕ} → anchor_state word ≡ state → state ≢ 0
            → one_if (test && nat_eq (anchor_state word) empty_state) ≡ 0
        not_empty true word is some = ap one_if (ne_eqb (anchor_state word) 0 (λ z. some (sym is ∙ z)))
        not_empty false word is some = refl

  pub take_all : Good k m' (set views i w)
  take_all = good_step k m m' views i v w good g' below_i at
      (subst (IsInShape k.capacity m' g') (sym tally) (let s = good.shaped in record {
        lists = s.lists;
        placed = record { one_place = λ e. let old = s.placed.one_place e in let z = cut_same e in omega arith };
        untaken = on_anchor.untaken k m views i v below_i at good d full_anchor claim.2;
        listed = on_anchor.listed k m views i v below_i at good d full_anchor claim.2 g'.full
            (λ some. absurd (let p = (on_anchor.alone k m views i v below_i at good d full_anchor claim.2).0 in let c = may.claimed in
            let t = total_at (λ (u : View). times_classed d u.classed) views i v below_i at in omega arith))
            (λ e other some. let n = ne-eqb-none d e (λ q. other (sym q)) in omega arith) (λ some. refl);
        chained = chained;
        durable = (let x = s.durable in record {
          behind = x.behind;
          room = x.room;
          below = λ e some. x.below e (let z = cut_same e in omega arith);
          infos = λ e some. x.infos e (let z = cut_same e in omega arith);
        });
      }))
      mine
      (λ j u other b a h. on_anchor.others k m views i v below_i at good d full_anchor claim.2 g' refl j u b a
      (λ some. absurd (let p = (on_anchor.alone k m views i v below_i at good d full_anchor claim.2).0 in let c = may.claimed in
      let t = total_two (λ (x : View). times_classed d x.classed) views i j v u other below_i at b a in omega arith)) h)
      (on_anchor.adds_after k m views i v below_i at good d full_anchor claim.2 w refl refl refl refl refl)
      (record { mine = omega arith; more = omega arith })
      (λ j u other b a. on_anchor.theirs k m views i v below_i at good d full_anchor claim.2 u)
      (let old = good.moves in let gives = total_same (λ (x : View). x.gives) views i v w below_i at refl in
      let moves = total_same (λ (x : View). x.moves) views i v w below_i at refl in
      let now = ap (λ (t : Tally). empties k.capacity (anchor m') (times_parked g' t)) tally in let same = empties_same in omega arith)
