-- A carrier whose block was accepted stays as a view that has nothing.
use Rattle.std.proofs.Common.{◌≡◌, ◌≢◌, ℕ, ◌+◌, ◌-◌, ◌<◌, ◌⊎◌, inl, inr, nat_eq, set, List, [], ◌∷◌, ◌++◌, Contains, replicate, get_or, length, refl, ap, sym, subst, ◌∙◌, length-set, arith}
use Rattle.std.proofs.lemmas.List.{get_or-set_other}
use Rattle.std.proofs.lemmas.List.Elements.{Contains-append_left, Contains-append_right}
use Rattle.heap_model.specs.Geometry.{lists}
use Rattle.heap_model.specs.Counting.{times, total, one_if}
use Rattle.heap_model.proofs.MemberLemmas.{in_head, in_none}
use Rattle.core_model.specs.Carriers.{IsCarrier, IsEmptied, accepted, emptied, one_if_carrier, AreOneLess, AreSeatsAndCarriers}
use Rattle.core_model.specs.Memory.{Memory, memory_of, anchor}
use Rattle.core_model.specs.View.{Setup, View, Batch, one_if_some, times_raw, times_classed, times_large, times_block}
use Rattle.core_model.specs.Sound.{Tally, tally_of, IsInShape, IsSetUp, ClaimsOf, BlocksOf, Knows, KnowsWords, HasTickets, HasLost, times_parked, empties, Good, Sound}
use Rattle.core_model.proofs.CarrierLemmas.{join_good, one_set}
use Rattle.core_model.proofs.OpenCountLemmas.{empty_at}
use Rattle.core_model.proofs.OwnLemmas.{length_only}
use Rattle.core_model.proofs.SpanLemmas as spans
use Rattle.core_model.proofs.ChosenLemmas.{each_behind, total_behind}
use Rattle.core_model.proofs.EventStepLemmas.{IsSeat, seat_at}
use Rattle.core_model.proofs.TotalLemmas.{total_set, total_same}

pub empties_carrier : (u : View) → IsCarrier u → IsEmptied (emptied u)
empties_carrier u c = record {
  is_two = refl;
  held = (refl, refl);
  was = record { is_one = refl; roots = c.roots; free = c.free; claims = c.claims; tickets = c.tickets; counts = c.counts; handed = c.handed };
}

-- beside the views, one of them without its block may stand
module _ (k : Setup) (m : Memory) (views : List View) (j : ℕ) (u : View) (below : j < length views) (at : get_or views j u ≡ u)
    (carries : IsCarrier u) (good : Good k m views) where
  abbrev e : View
  e = emptied u

  carrier : IsSeat k m good.shape u
  carrier = seat_at k m views good j u below at

  abbrev more : List View
  more = views ++ e ∷ []

  none_more : (f : View → ℕ) → f e ≡ 0 → total f more ≡ total f views
  none_more f none = let t = total_behind f views e in omega arith

  no_raw : (d : ℕ) → times_raw d e ≡ 0
  no_raw d = let c = carries.claims in ap (λ (p : List ℕ × (List ℕ × List ℕ)). times d p.0 + times d p.1.0 + times d p.1.1)
      (λ i. (c.0 i, (c.1 i, c.2 i)))

  no_class : (d : ℕ) → times_classed d e.classed ≡ 0
  no_class d = ap (times_classed d) carries.claims.3

  no_blocks : (n : ℕ) → times_block n e ≡ 0
  no_blocks n = let c = ap (total (times n)) carries.free.0 in let b = ap (λ (x : Batch). times n x.blocks) carries.free.1 in
      let z = empties_of n in omega arith where
        empties_of : (i : ℕ) → total (times i) (replicate lists []) ≡ 0
        empties_of i = refl

  tally : tally_of more ≡ tally_of views
  tally = λ i. record {
    raw = λ d. (none_more (times_raw d) (no_raw d)) i;
    classed = λ d. (none_more (λ (x : View). times_classed d x.classed) (no_class d)) i;
    large = λ d. (none_more (λ (x : View). times_large d x.large) refl) i;
    blocks = λ n. (none_more (times_block n) (no_blocks n)) i;
  }

  set_up : IsSetUp k e
  set_up = let s = carrier.set_up in record {
    setup = s.setup;
    roots = s.roots;
    small = refl;
    caches = s.caches;
    looks = s.looks;
    volatile = length_only (record u { small = replicate lists []; large = []; carries = 2 }) 0 u.volatile ∙ s.volatile;
    durable = length_only (record u { small = replicate lists []; large = []; carries = 2 }) 0 u.durable ∙ s.durable;
  }

  claims : ClaimsOf m e
  claims = let c = carrier.claims in record {
    is_raw = c.is_raw;
    is_split = c.is_split;
    is_cutting = c.is_cutting;
    is_classed = c.is_classed;
    is_large = λ d some. absurd (omega (arith, some));
    is_part = λ d some. absurd (omega (arith, some));
    some = λ span there. absurd (in_none span there);
  }

  blocks : BlocksOf m e
  blocks = let s = carrier.blocks in record {
    held = λ class b there. absurd (let z = empty_at lists class b in omega arith);
    cached = s.cached;
    batched = s.batched;
    cache_linked = s.cache_linked;
    batch_linked = s.batch_linked;
  }

  -- it has seen nothing but what a carrier may have seen
  knows : Knows k.capacity m good.shape e
  knows = let s = carrier.knows in record {
    seen_head = s.seen_head;
    seen_used = s.seen_used;
    looked = s.looked;
    seen_anchor = s.seen_anchor;
    seen_empty = s.seen_empty;
    floor = s.floor;
  }

  tickets : HasTickets k.budget m.drawn e
  tickets = let t = carrier.tickets in record {
    ticket = t.ticket;
    last = t.last;
    used_look = t.used_look;
    head_looks = t.head_looks;
    counts = t.counts;
    state = t.state;
    looked_then = t.looked_then;
    gives = t.gives;
    cuts = t.cuts;
  }

  wins : total (λ (x : View). x.wins) more ≡ total (λ (x : View). x.wins) views
  wins = none_more (λ (x : View). x.wins) carries.counts.1

  pub beside : Good k m more
  beside = record {
    small = good.small;
    shape = good.shape;
    shaped = subst (IsInShape k.capacity m good.shape) (sym tally) good.shaped;
    set_up = each_behind views e (IsSetUp k) good.set_up set_up;
    claims = each_behind views e (ClaimsOf m) good.claims claims;
    blocks = each_behind views e (BlocksOf m) good.blocks blocks;
    knows = each_behind views e (Knows k.capacity m good.shape) good.knows knows;
    words = each_behind views e (KnowsWords k.capacity m) good.words
        (spans.words_after k m views j u below at good (record u { small = replicate lists []; large = []; carries = 2 }) refl refl refl);
    tickets = each_behind views e (HasTickets k.budget m.drawn) good.tickets tickets;
    adds = (let x = good.adds in let c = carries.counts in
        let draws = none_more (λ (y : View). y.draws) c.0 in
        let held = none_more (λ (y : View). one_if_some y.ticket) (ap one_if_some carries.tickets.0) in
        let stopped = none_more (λ (y : View). one_if_some y.stopped) (ap one_if_some carries.tickets.1) in
        let taken = none_more (λ (y : View). y.taken) c.3 in
        let p = x.draws in let q = x.pops in let r = x.budget in let s = x.stopped in let t = x.taken in
        record {
          draws = omega arith;
          pops = omega arith;
          budget = omega arith;
          stopped = omega arith;
          taken = omega arith;
          roots = λ n. let before = x.roots n in let same = none_more (λ (y : View). times n y.roots) (ap (times n) carries.roots) in omega arith;
        });
    lost = each_behind views e (HasLost m more) (λ i x below_x at_x. let before = good.lost i x below_x at_x in let s = wins in
        omega arith) (let before = good.lost j u below at in let s = wins in omega arith);
    moves = (let before = good.moves in let c = carries.counts in let g = c.5 in let n = c.6 in
        let moves = none_more (λ (y : View). y.moves) n in let gives = none_more (λ (y : View). y.gives) g in
        let same = ap (λ (t : Tally). empties k.capacity (anchor m) (times_parked good.shape t)) tally in omega arith);
  }

-- the seat takes the block in, and the carrier stays without it
module _ (k : Setup) (views : List View) (i j : ℕ) (v u : View) (apart : j ≢ i) (below_i : i < length views) (at_i : get_or views i v ≡ v)
    (below_j : j < length views) (at_j : get_or views j u ≡ u) where
  abbrev w : View
  w = accepted v u

  abbrev seated : List View
  seated = set views i w

  below : j < length seated
  below = let l = length-set views i w in omega arith

  at : get_or seated j u ≡ u
  at = get_or-set_other views i j w u apart ∙ at_j

  less : AreOneLess (views ++ emptied u ∷ []) (set seated j (emptied u)) v u w
  less = record {
    sums = λ f. let s = total_set f views i v w below_i at_i in let t = total_set f seated j u (emptied u) below at in
        let b = total_behind f views (emptied u) in omega arith;
    members = one_set seated j (emptied u) (λ y. (w ≡ y) ⊎ Contains (views ++ emptied u ∷ []) y)
        (one_set views i w (λ y. (w ≡ y) ⊎ Contains (views ++ emptied u ∷ []) y)
        (λ y there. inr (Contains-append_left views (emptied u ∷ []) y there)) (inl refl))
        (inr (Contains-append_right views (emptied u ∷ []) (emptied u) (in_head (emptied u) [])));
  }

  accept_good : (m : Memory) → IsCarrier u → Good k m views → Good k m (set seated j (emptied u))
  accept_good m carries good = join_good k m (views ++ emptied u ∷ []) (set seated j (emptied u)) v u (beside k m views j u below_j at_j carries good)
      (Contains-append_left views (emptied u ∷ []) v (i, below_i, at_i)) (Contains-append_left views (emptied u ∷ []) u (j, below_j, at_j)) carries less

  pub accept_sound : (words : List ℕ) → IsCarrier u → Sound k words views → Sound k words (set seated j (emptied u))
  accept_sound words carries sound = record {
    some = sound.some;
    long = sound.long;
    fixed = sound.fixed;
    capacity = sound.capacity;
    used = sound.used;
    good = accept_good (memory_of k.capacity words) carries sound.good;
  }

  pub accept_counted : v.carries ≡ 0 → IsCarrier u → AreSeatsAndCarriers k views → AreSeatsAndCarriers k (set seated j (emptied u))
  accept_counted seat carries are = record {
    seats = (let s = total_same (λ (x : View). 1 - x.carries) views i v w below_i at_i refl in
        let t = total_same (λ (x : View). 1 - x.carries) seated j u (emptied u) below at (let c = carries.is_one in omega arith) in
        let old = are.seats in omega arith);
    carriers = (let c = total_same one_if_carrier views i v w below_i at_i refl in let c' = total_set one_if_carrier seated j u (emptied u) below at in
        let a = total_set (λ (x : View). x.accepts) views i v w below_i at_i in
        let a' = total_same (λ (x : View). x.accepts) seated j u (emptied u) below at refl in
        let o = total_same (λ (x : View). x.offers) views i v w below_i at_i refl in
        let o' = total_same (λ (x : View). x.offers) seated j u (emptied u) below at refl in
        let one = ap (λ n. one_if (nat_eq n 1)) carries.is_one in let old = are.carriers in omega arith);
    each = one_set seated j (emptied u) (λ y. (y.carries ≡ 0) ⊎ IsCarrier y ⊎ IsEmptied y)
        (one_set views i w (λ y. (y.carries ≡ 0) ⊎ IsCarrier y ⊎ IsEmptied y) are.each (inl seat)) (inr (inr (empties_carrier u carries)));
  }
