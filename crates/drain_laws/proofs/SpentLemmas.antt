-- Where a class has nothing left each superblock is cut or of a large block, and one of the class is full.
use Rattle.std.proofs.Common.{◌≡◌, ℕ, ◌+◌, ◌<◌, ◌≤◌, inl, inr, nat_lt, List, [], ◌∷◌, length, refl, ap, sym, subst, ◌∙◌, arith}
use Rattle.std.proofs.lemmas.Bool.{cases_lt, cases_eq}
use Rattle.heap_model.specs.Chains.{Follows}
use Rattle.heap_model.specs.Counting.{below, times, total}
use Rattle.heap_model.specs.Sizes.{IsClass}
use Rattle.heap_model.specs.Words.{head_first, full_anchor}
use Rattle.heap_seat.specs.declared.fault.Looks.{Looks}
use Rattle.heap_model.specs.Geometry.{superblock_of}
use Rattle.core_model.specs.Memory.{Memory, used, head, info, anchor, link}
use Rattle.core_model.specs.Sound.{CoreShape, Good, IsCutBlock, ClaimsOf, BlocksOf, tally_of, times_cut, times_in_lists, class_numbers}
use Rattle.core_model.specs.View.{Batch, Setup, View, Parts, LastLook, of_class, one_if_some, times_block, times_classed, times_large, times_raw}
use Rattle.core_model.proofs.BlockLemmas.{superblock_is}
use Rattle.core_model.proofs.FrameLemmas.{below_is}
use Rattle.core_model.proofs.ListLemmas.{class_of}
use Rattle.core_model.proofs.OwnerLemmas.{HasClass, which_class}
use Rattle.core_model.proofs.TotalLemmas.{total_where}
use Rattle.heap_model.proofs.ListLemmas.{one_at_most}
use Rattle.seat_model.proofs.ClosedPlaceLemmas.{spanned}
use Rattle.cache_fill.specs.Refills.{IsFull, IsLook}
use Rattle.seat_costs.specs.Alone.{IsSteady, Steady}
use Rattle.seat_costs.specs.Idle.{IsIdle}
use Rattle.seat_costs.specs.Rows.{head_look}
use Rattle.drain_laws.specs.Spent.{IsSpent, IsAllHeld}

-- nothing follows a head that leads nowhere
pub none_follow : (links : ℕ → ℕ) (capacity from : ℕ) (ds : List ℕ) → Follows links capacity from ds → from ≡ 0 → (d : ℕ) → times d ds ≡ 0
none_follow links capacity from [] f none d = refl
none_follow links capacity from (e ∷ ds) f none d = absurd (let first = f.0 in omega arith)

-- what was seen last is so
look_is : (v : View) (look : LastLook) (now word : ℕ) → IsSteady v look now → IsLook look word v → now ≡ word
look_is v look now word steady is = steady.same (ap one_if_some is.by) is.wins ∙ is.word_is

pub spent_by_looks : (class : ℕ) (looks : Looks) (m : Memory) (v w : View) → IsClass class → IsFull class looks v w → of_class v.caches class ≡ []
    → IsIdle w → Steady m w
    → IsSpent v.setup.capacity m class w
spent_by_looks class looks m v w is full cache idle steady = record {
  class_empty = ap head_first (look_is w (head_look w class) (head m class) looks.class_head
      (steady.heads class (let last = is.last in omega arith)) full.class_look) ∙ full.class_empty;
  free_empty = ap head_first (look_is w (head_look w 0) (head m 0) looks.free_head (steady.heads 0 (omega arith)) full.free_look) ∙ full.free_empty;
  past = let now = look_is w w.used_look (used m) looks.used steady.used_is full.used_look in let past = full.past in omega arith;
  cache = ap (λ (p : Parts). of_class p.caches class) full.parts_are ∙ cache;
  idle = idle;
}

-- a heap with one seat that has none in hand
module _ (k : Setup) (m : Memory) (v : View) (good : Good k m (v ∷ [])) (idle : IsIdle v) where
  abbrev g : CoreShape
  g = good.shape

  abbrev cut : ℕ → ℕ
  cut = times_cut g (tally_of (v ∷ []))

  raw_none : (d : ℕ) → times_raw d v ≡ 0
  raw_none d =
      let a = ap (times d) idle.raw in
      let b = ap (times d) idle.split in
      let c = ap (times d) idle.cutting in omega arith

  -- each taken superblock is in one place
  pub place : (d : ℕ) → d < used m → times d (g.lists 0) + cut d + times_large d v.large ≡ 1
  place d less = let one = good.shaped.placed.one_place d in let none = raw_none d in let now = below_is d (used m) less in omega arith

  pub most_large : (d : ℕ) → times_large d v.large ≤ 1
  most_large d = let one = good.shaped.placed.one_place d in let most = below_most d (used m) in omega arith where
    below_most : (n limit : ℕ) → below n limit ≤ 1
    below_most n limit = one_at_most (nat_lt n limit)

  claims : ClaimsOf m v
  claims = good.claims 0 v (omega arith) refl

  blocks : BlocksOf m v
  blocks = good.blocks 0 v (omega arith) refl

  cap : v.setup.capacity ≡ k.capacity
  cap = ap (λ (s : Setup). s.capacity) (good.set_up 0 v (omega arith) refl).setup

  -- a superblock of a class is of no large block
  pub large_not_class : (d class : ℕ) → IsClass class → info m d ≡ class → times_large d v.large ≡ 0
  large_not_class d class is same = elim (cases_lt 0 (times_large d v.large)) as (λ _. times_large d v.large ≡ 0) [
    | inl some ↦
        let s = spanned d v.large most_large claims.some some in
        let low = s.low in
        let high = s.high in
        let l = claims.is_large s.first (omega arith) in
        let least = is.some in
        let most = is.last in
        elim (cases_eq s.first d) as (λ _. times_large d v.large ≡ 0) [
          | inl first ↦ let e = ap (info m) (sym first) ∙ l.0 in absurd (omega (arith, e, same, least, most, high, low))
          | inr other ↦ let e = l.1 d (omega (arith, low, other)) high in absurd (omega (arith, e, same, least))
        ]
    | inr none ↦ omega arith
  ]

  -- one that is cut, and not in the list of its class, is full
  pub not_listed_full : (d class : ℕ) → 0 < cut d → info m d ≡ class → times d (g.lists class) ≡ 0 → anchor m d ≡ full_anchor
  not_listed_full d class some now none = good.shaped.listed.is_full d (let c = classed in let l = listed in omega arith) where
    classed : times_classed d v.classed ≡ 0
    classed = ap (times_classed d) idle.classed

    listed : times_in_lists g d ≡ 0
    listed = elim (cases_lt 0 (times_in_lists g d)) as (λ _. times_in_lists g d ≡ 0) [
      | inl there ↦
          let n = total_where (λ c. times d (g.lists c)) class_numbers there in
          let fits = good.shaped.listed.in_class n.1 d (class_of n.0 n.1 n.2 n.3) n.4 in
          let same : n.1 ≡ class = sym fits.0 ∙ now in
          absurd (let e = ap (λ c. times d (g.lists c)) same in let p = n.4 in omega arith)
      | inr never ↦ omega arith
    ]

  -- each block of a full superblock is held, where the cache of its class is empty
  pub full_held : (d class : ℕ) → IsClass class → 0 < cut d → info m d ≡ class → anchor m d ≡ full_anchor → of_class v.caches class ≡ [] → (b : ℕ)
      → IsCutBlock k.capacity class d b
      → 0 < times b (of_class v.small class)
  full_held d class is some now full empty b at = subst (λ n. 0 < times b (of_class v.small n)) held_class c.there where
    none : times b (g.chains d) ≡ 0
    none = no_times (g.chains d) ((good.shaped.chained.anchored d some).full.0 full) where
      no_times : (xs : List ℕ) → length xs ≡ 0 → times b xs ≡ 0
      no_times [] e = refl
      no_times (x ∷ xs) e = absurd (omega (arith, e))

    one : times_block b v ≡ 1
    one = let o = good.shaped.chained.owned d b some (subst (λ n. IsCutBlock k.capacity n d b) (sym now) at) in let n = none in omega arith

    home : superblock_of v.setup.capacity b ≡ d
    home = ap (λ n. superblock_of n b) cap ∙ superblock_is k.capacity class d b is at

    cached : total (times b) v.caches ≡ 0
    cached = elim (cases_lt 0 (total (times b) v.caches)) as (λ _. total (times b) v.caches ≡ 0) [
      | inl there ↦
          let n = which_class b v.caches there in
          let same : n.n ≡ class = sym (blocks.cached n.n b n.there) ∙ ap (info m) home ∙ now in
          absurd (let e = ap (λ c. times b (of_class v.caches c)) same ∙ ap (times b) empty in let p = n.there in omega arith)
      | inr never ↦ omega arith
    ]

    batched : times b v.batch.blocks ≡ 0
    batched = ap (λ (batch : Batch). times b batch.blocks) idle.batch

    c : HasClass b v.small
    c = which_class b v.small (let o = one in let e = cached in let f = batched in omega arith)

    held_class : c.n ≡ class
    held_class = sym (blocks.held c.n b c.there) ∙ ap (info m) home ∙ now

-- of a class that has nothing left
module _ (k : Setup) (m : Memory) (v : View) (good : Good k m (v ∷ [])) (class : ℕ) (is : IsClass class) (spent : IsSpent k.capacity m class v) where
  -- each superblock is cut or of a large block
  pub cut_or_large : (d : ℕ) → d < k.capacity → times_cut good.shape (tally_of (v ∷ [])) d + times_large d v.large ≡ 1
  cut_or_large d less =
      let past = spent.past in
      let one = place k m v good spent.idle d (omega arith) in
      let none = none_follow (link m) k.capacity (head_first (head m 0)) (good.shape.lists 0)
      (good.shaped.lists.follows 0 (omega arith)) spent.free_empty d in omega arith

  pub all_held : (d : ℕ) → d < k.capacity → info m d ≡ class → IsAllHeld k.capacity class d m v
  all_held d less now = record { anchor_is = full; blocks = full_held k m v good spent.idle d class is some now full spent.cache } where
    some : 0 < times_cut good.shape (tally_of (v ∷ [])) d
    some = let one = cut_or_large d less in let none = large_not_class k m v good spent.idle d class is now in omega arith

    full : anchor m d ≡ full_anchor
    full = not_listed_full k m v good spent.idle d class some now
        (none_follow (link m) k.capacity (head_first (head m class)) (good.shape.lists class)
        (good.shaped.lists.follows class (let last = is.last in omega arith)) spent.class_empty d)
