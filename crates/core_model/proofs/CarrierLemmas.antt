-- A seat that takes in what a carrier has keeps the heap sound.
use Rattle.std.proofs.Common.{◌≡◌, ℕ, zero, suc, ◌+◌, ◌<◌, ◌≤◌, inl, inr, set, List, [], ◌∷◌, Contains, refl, ap, sym, subst, ◌∙◌, arith}
use Rattle.std.proofs.lemmas.Bool.{cases_lt}
use Rattle.std.proofs.lemmas.List.Elements.{Contains-append_cases}
use Rattle.heap_model.specs.Sizes.{words_of_class}
use Rattle.heap_model.specs.Words.{large_info}
use Rattle.heap_model.specs.Counting.{times, total}
use Rattle.heap_model.proofs.MemberLemmas.{in_head, in_rest, head_or_rest}
use Rattle.heap_model.specs.Geometry.{superblock_of}
use Rattle.core_model.specs.Cells.{Cell, used_cell, head_cell, info_cell, anchor_cell, link_cell, root_cell, data_cell, no_cell, index_of}
use Rattle.core_model.specs.Memory.{Memory, memory_of, anchor, info}
use Rattle.core_model.specs.View.{Setup, View, Batch, one_if_some, of_class, times_own, times_raw, times_classed, times_large, times_block, times_within, times_in_classes}
use Rattle.core_model.specs.Effects.{span_count}
use Rattle.core_model.specs.Sound.{Tally, tally_of, IsInShape, Each, IsSetUp, ClaimsOf, BlocksOf, Knows, KnowsWords, HasTickets, HasLost, times_parked, empties, Good, Sound}
use Rattle.core_model.specs.Carriers.{IsCarrier, accepted, AreOneLess}
use Rattle.core_model.proofs.EventStepLemmas.{IsSeat, seat_at}
use Rattle.core_model.proofs.QuietLemmas.{none_drawn, ticket_given_up}
use Rattle.core_model.proofs.BothLemmas.{both_times, large_append, both_length, either_length, count_append, both_class, both_within, either_at}

module _ (k : Setup) (m : Memory) (old new : List View) (v u : View) (good : Good k m old) (has_v : Contains old v) (has_u : Contains old u)
    (carries : IsCarrier u) (less : AreOneLess old new v u (accepted v u)) where
  abbrev pub w : View
  w = accepted v u

  seat : IsSeat k m good.shape v
  seat = seat_at k m old good has_v.0 v has_v.1 has_v.2

  carrier : IsSeat k m good.shape u
  carrier = seat_at k m old good has_u.0 u has_u.1 has_u.2

  no_raw : (d : ℕ) → times_raw d u ≡ 0
  no_raw d = let c = carries.claims in ap (λ (p : List ℕ × (List ℕ × List ℕ)). times d p.0 + times d p.1.0 + times d p.1.1)
      (λ i. (c.0 i, (c.1 i, c.2 i)))

  no_class : (d : ℕ) → times_classed d u.classed ≡ 0
  no_class d = ap (times_classed d) carries.claims.3

  no_caches : (n : ℕ) → total (times n) u.caches ≡ 0
  no_caches n = ap (total (times n)) carries.free.0

  no_batch : (n : ℕ) → times n u.batch.blocks ≡ 0
  no_batch n = ap (λ (b : Batch). times n b.blocks) carries.free.1

  -- what is counted of both is counted of the seat that took them in
  both : (f : View → ℕ) → f w ≡ f v + f u → total f new ≡ total f old
  both f share = let s = less.sums f in omega arith

  blocks_share : (n : ℕ) → times_block n w ≡ times_block n v + times_block n u
  blocks_share n = let s = both_times n u.small v.small in let c = no_caches n in let b = no_batch n in omega arith

  large_share : (d : ℕ) → times_large d w.large ≡ times_large d v.large + times_large d u.large
  large_share d = let l = large_append d u.large v.large in omega arith

  tally : tally_of new ≡ tally_of old
  tally = λ j. record {
    raw = λ d. (both (times_raw d) (let z = no_raw d in omega arith)) j;
    classed = λ d. (both (λ (x : View). times_classed d x.classed) (let z = no_class d in omega arith)) j;
    large = λ d. (both (λ (x : View). times_large d x.large) (large_share d)) j;
    blocks = λ n. (both (times_block n) (blocks_share n)) j;
  }

  each_of : (P : View → Type 0) → Each old P → P w → Each new P
  each_of P all own i x below at = elim (less.members x (i, below, at)) [
    | inl same ↦ subst P same own
    | inr there ↦ all there.0 x there.1 there.2
  ]

  set_up : IsSetUp k w
  set_up = let s = seat.set_up in record {
    setup = s.setup;
    roots = s.roots;
    small = both_length u.small v.small (carrier.set_up.small ∙ sym s.small) ∙ s.small;
    caches = s.caches;
    looks = s.looks;
    volatile = either_length u.volatile v.volatile ∙ s.volatile;
    durable = either_length u.durable v.durable ∙ s.durable;
  }

  is_large : (d : ℕ) → 0 < span_count d w.large → (info m d ≡ large_info (span_count d w.large))
      × ((e : ℕ) → d < e → e < d + span_count d w.large → info m e ≡ 0)
  is_large d there = elim (count_append d u.large v.large carrier.claims.some) [
    | inl of_u ↦ subst (λ n. (info m d ≡ large_info n) × ((e : ℕ) → d < e → e < d + n → info m e ≡ 0)) (sym of_u.1) (carrier.claims.is_large d of_u.0)
    | inr of_v ↦ subst (λ n. (info m d ≡ large_info n) × ((e : ℕ) → d < e → e < d + n → info m e ≡ 0)) (sym of_v)
        (seat.claims.is_large d (omega (arith, of_v, there)))
  ]

  claims : ClaimsOf m w
  claims = let x = seat.claims in record {
    is_raw = x.is_raw;
    is_split = x.is_split;
    is_cutting = x.is_cutting;
    is_classed = x.is_classed;
    is_large = is_large;
    is_part = λ d there. elim (cases_lt 0 (times_large d u.large)) [
      | inl of_u ↦ carrier.claims.is_part d of_u
      | inr none ↦ x.is_part d (let l = large_share d in omega arith)
    ];
    some = λ span there. elim (Contains-append_cases u.large v.large span there)
        [ inl of_u ↦ carrier.claims.some span of_u | inr of_v ↦ x.some span of_v ];
  }

  same_setup : u.setup ≡ v.setup
  same_setup = carrier.set_up.setup ∙ sym seat.set_up.setup

  blocks : BlocksOf m w
  blocks = let s = seat.blocks in record {
    held = λ class b there. elim (cases_lt 0 (times b (of_class u.small class))) [
      | inl of_u ↦ subst (λ (x : Setup). info m (superblock_of x.capacity b) ≡ class) same_setup (carrier.blocks.held class b of_u)
      | inr none ↦ s.held class b (let t = both_class b class u.small v.small in omega arith)
    ];
    cached = s.cached;
    batched = s.batched;
    cache_linked = s.cache_linked;
    batch_linked = s.batch_linked;
  }

  knows : Knows k.capacity m good.shape w
  knows = let s = seat.knows in record {
    seen_head = s.seen_head;
    seen_used = s.seen_used;
    looked = s.looked;
    seen_anchor = s.seen_anchor;
    seen_empty = s.seen_empty;
    floor = s.floor;
  }

  -- what was own to either is own to the seat
  own_more : (cell : Cell) → (times_own v cell ≤ times_own w cell) × (times_own u cell ≤ times_own w cell)
  own_more used_cell = (omega arith, omega arith)
  own_more (head_cell list) = (omega arith, omega arith)
  own_more (info_cell d) = let z = no_raw d in (omega arith, omega arith)
  own_more (anchor_cell d) = let z = no_raw d in (omega arith, omega arith)
  own_more (link_cell d) = let z = no_raw d in let c = no_class d in (omega arith, omega arith)
  own_more (root_cell n) = let z = ap (times n) carries.roots in (omega arith, omega arith)
  own_more (data_cell word) =
      let s = both_within word 0 u.small v.small in
      let c = ap (times_in_classes word 0) carries.free.0 in let b =
      ap (λ (x : Batch). times_within (words_of_class x.class) word x.blocks) carries.free.1 in
      let l = large_share (superblock_of v.setup.capacity word) in let z = no_raw (superblock_of v.setup.capacity word) in
      let p = ap (λ (x : Setup). times_large (superblock_of x.capacity word) u.large) same_setup in
      let q = ap (λ (x : Setup). times_raw (superblock_of x.capacity word) u) same_setup in (omega arith, omega arith)
  own_more no_cell = (omega arith, omega arith)

  words : KnowsWords k.capacity m w
  words = record {
    volatile = λ cell value is knows_it. elim (either_at u.volatile v.volatile (index_of cell) value knows_it) [
      | inl by_u ↦ let old_u = carrier.words.volatile cell value is by_u in (let o = own_more cell in let h = old_u.0 in omega arith, old_u.1)
      | inr by_v ↦ let old_v = seat.words.volatile cell value is by_v in (let o = own_more cell in let h = old_v.0 in omega arith, old_v.1)
    ];
    durable = λ cell value is knows_it. elim (either_at u.durable v.durable (index_of cell) value knows_it) [
      | inl by_u ↦ let old_u = carrier.words.durable cell value is by_u in (let o = own_more cell in let h = old_u.0 in omega arith, old_u.1)
      | inr by_v ↦ let old_v = seat.words.durable cell value is by_v in (let o = own_more cell in let h = old_v.0 in omega arith, old_v.1)
    ];
  }

  tickets : HasTickets k.budget m.drawn w
  tickets = let t = seat.tickets in record {
    ticket = none_drawn m.drawn;
    last = t.last;
    used_look = t.used_look;
    head_looks = t.head_looks;
    counts = let c = t.counts in omega arith;
    state = ticket_given_up k.budget v w t.state refl refl refl;
    looked_then = t.looked_then;
    gives = t.gives;
    cuts = t.cuts;
  }

  wins : total (λ (x : View). x.wins) new ≡ total (λ (x : View). x.wins) old
  wins = both (λ (x : View). x.wins) (let c = carries.counts in let z = c.1 in omega arith)

  pub join_good : Good k m new
  join_good = record {
    small = good.small;
    shape = good.shape;
    shaped = subst (IsInShape k.capacity m good.shape) (sym tally) good.shaped;
    set_up = each_of (IsSetUp k) good.set_up set_up;
    claims = each_of (ClaimsOf m) good.claims claims;
    blocks = each_of (BlocksOf m) good.blocks blocks;
    knows = each_of (Knows k.capacity m good.shape) good.knows knows;
    words = each_of (KnowsWords k.capacity m) good.words words;
    tickets = each_of (HasTickets k.budget m.drawn) good.tickets tickets;
    adds = (let x = good.adds in let c = carries.counts in let none = c.0 in let z = c.3 in
        let draws = both (λ (y : View). y.draws) (omega arith) in
        let held = less.sums (λ (y : View). one_if_some y.ticket) in
        let stopped = both (λ (y : View). one_if_some y.stopped) (let s = ap one_if_some carries.tickets.1 in omega arith) in
        let taken = both (λ (y : View). y.taken) (omega arith) in
        let p = x.draws in let q = x.pops in let r = x.budget in let s = x.stopped in let t = x.taken in
        record {
          draws = omega arith;
          pops = omega arith;
          budget = omega arith;
          stopped = omega arith;
          taken = omega arith;
          roots = λ n. let before = x.roots n in let same = both (λ (y : View). times n y.roots) (let z = ap (times n) carries.roots in
              omega arith) in omega arith;
        });
    lost = each_of (HasLost m new) (λ i x below at. let before = good.lost i x below at in let s = wins in
        omega arith) (let before = good.lost has_v.0 v has_v.1 has_v.2 in let s = wins in omega arith);
    moves = (let before = good.moves in let c = carries.counts in let g = c.5 in let n = c.6 in
        let moves = both (λ (y : View). y.moves) (omega arith) in let gives = both (λ (y : View). y.gives) (omega arith) in
        let same = ap (λ (t : Tally). empties k.capacity (anchor m) (times_parked good.shape t)) tally in omega arith);
  }

-- the same of the words of the table
pub join_sound : (k : Setup) (words : List ℕ) (old new : List View) (v u : View) → Contains old v → Contains old u → IsCarrier u
    → AreOneLess old new v u (accepted v u) → Sound k words old → Sound k words new
join_sound k words old new v u has_v has_u carries less sound = record {
  some = sound.some;
  long = sound.long;
  fixed = sound.fixed;
  capacity = sound.capacity;
  used = sound.used;
  good = join_good k (memory_of k.capacity words) old new v u sound.good has_v has_u carries less;
}

-- what is so of each member, after a step of one
pub one_set : (views : List View) (i : ℕ) (w : View) (P : View → Type 0) → ((x : View) → Contains views x → P x) → P w → (x : View)
    → Contains (set views i w) x → P x
one_set [] i w P all own x there = all x there
one_set (y ∷ views) zero w P all own x there = elim (head_or_rest w x views there)
    [ inl same ↦ subst P same own | inr later ↦ all x (in_rest y x views later) ]
one_set (y ∷ views) (suc i) w P all own x there = elim (head_or_rest y x (set views i w) there) [
  | inl same ↦ all x (subst (λ z. Contains (y ∷ views) z) same (in_head y views))
  | inr later ↦ one_set views i w P
      (λ z at. all z (in_rest y z views at)) own x later
]
