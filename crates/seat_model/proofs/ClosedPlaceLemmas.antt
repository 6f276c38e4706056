-- Where the superblocks of a sound state are whose seats keep nothing back: in the free list, cut for a class, or of a held large block.
use Rattle.std.proofs.Common.{◌≡◌, ◌≢◌, ℕ, ◌+◌, ◌<◌, ◌≤◌, inl, inr, Bool, true, false, cond, nat_lt, nat_le, List, [], ◌∷◌, Contains, get_or, length, refl, ap, sym, subst, ◌∙◌, lt-ltb, ltb-true, le-leb, leb-true, eq-eqb, ne_eqb, arith}
use Rattle.std.proofs.lemmas.Bool.{cases_lt, cases_eq}
use Rattle.heap_model.specs.Counting.{times, total, below, one_if}
use Rattle.heap_model.specs.Sizes.{IsClass}
use Rattle.heap_model.specs.Words.{large_info}
use Rattle.heap_model.proofs.CountingLemmas.{one_if_some, one_if_true, total_none}
use Rattle.heap_model.proofs.MemberLemmas.{in_head, in_rest}
use Rattle.heap_model.specs.Geometry.{superblock_of}
use Rattle.core_model.specs.Effects.{span_count}
use Rattle.core_model.specs.Memory.{Memory, used, info, memory_of}
use Rattle.core_model.specs.Sound.{CoreShape, Each, Good, Sound, tally_of, times_cut}
use Rattle.core_model.specs.View.{Batch, Setup, Span, View, of_class, takes, times_block, times_large, times_raw}
use Rattle.core_model.proofs.HeldOnceLemmas.{held_once}
use Rattle.core_model.proofs.LinkFrameLemmas.{span_covers}
use Rattle.core_model.proofs.OwnerLemmas.{which_class}
use Rattle.core_model.proofs.PlaceLemmas.{and_both, and_is}
use Rattle.core_model.proofs.TotalLemmas.{total_at, total_where}
use Rattle.seat_model.specs.Emptied.{KeepsNothing}

-- the span of superblock d: where it begins, and that it takes d
pub record IsSpanned (d : ℕ) (spans : List Span) : Type 0 where
  pub first : ℕ
  pub low : first ≤ d
  pub high : d < first + span_count first spans

-- a superblock that spans take is in one of them, where they take none twice
pub spanned : (d : ℕ) (spans : List Span) → ((e : ℕ) → times_large e spans ≤ 1) → ((span : Span) → Contains spans span → 1 ≤ span.count)
    → 0 < times_large d spans → IsSpanned d spans
spanned d [] once some there = absurd (omega arith)
spanned d (span ∷ spans) once some there = by_test (spanned d spans (λ e. let most = once e in
    omega arith) (λ s p. some s (in_rest span s spans p))) (takes d span) refl where
      head : span_count span.first (span ∷ spans) ≡ span.count
      head = ap (λ t. cond t span.count (span_count span.first spans)) (eq-eqb span.first span.first refl)

      begins : (e : ℕ) → span.first ≡ e → times_large e (span ∷ spans) ≡ 1 + times_large e spans
      begins e same =
          let first = some span (in_head span spans) in
          let one = one_if_true (takes e span) (and_is (nat_le span.first e) (nat_lt e (span.first + span.count))
          (le-leb span.first e (omega (arith, same))) (lt-ltb e (span.first + span.count) (omega (arith, same)))) in omega arith

      by_test : (0 < times_large d spans → IsSpanned d spans) → (t : Bool) → takes d span ≡ t → IsSpanned d (span ∷ spans)
      by_test behind true is =
          let both = and_both (nat_le span.first d) (nat_lt d (span.first + span.count)) is in
          record {
            first = span.first;
            low = leb-true span.first d both.0;
            high = (let less = ltb-true d (span.first + span.count) both.1 in omega (arith, head));
          }
      by_test behind false not =
          let none : one_if (takes d span) ≡ 0 = ap one_if not in
          let rest = behind (omega arith) in
          let low = rest.low in
          let high = rest.high in
          let other : span.first ≢ rest.first = λ same. (let covers = span_covers rest.first rest.first spans (omega arith) (omega arith) (omega arith) in
          let o = once rest.first in let b = begins rest.first same in omega arith) in
          let skip_it : span_count rest.first (span ∷ spans) ≡ span_count rest.first spans =
          ap (λ t. cond t span.count (span_count rest.first spans)) (ne_eqb span.first rest.first other) in
          record { first = rest.first; low = low; high = omega arith }

module _ (k : Setup) (words : List ℕ) (views : List View) (sound : Sound k words views) (nothing : Each views KeepsNothing) where
  abbrev m : Memory
  m = memory_of k.capacity words

  abbrev good : Good k m views
  good = sound.good

  abbrev g : CoreShape
  g = good.shape

  -- nothing is claimed
  raw_of : (d : ℕ) (v : View) → KeepsNothing v → times_raw d v ≡ 0
  raw_of d v none =
      let a = ap (times d) none.idle.raw in
      let b = ap (times d) none.idle.split in
      let c = ap (times d) none.idle.cutting in omega arith

  raw_none : (d : ℕ) → total (times_raw d) views ≡ 0
  raw_none d = total_none (times_raw d) views (λ v there. raw_of d v (nothing there.0 v there.1 there.2))

  -- each taken superblock is in one place
  pub place : (d : ℕ) → times d (g.lists 0) + times_cut g (tally_of views) d + total (λ (v : View). times_large d v.large) views ≡ below d (used m)
  place d = let one = good.shaped.placed.one_place d in let none = raw_none d in omega arith

  pub taken : (d : ℕ) → 0 < times d (g.lists 0) + times_cut g (tally_of views) d + total (λ (v : View). times_large d v.large) views → d < used m
  taken d some = ltb-true d (used m) (one_if_some (nat_lt d (used m)) (let one = place d in omega arith))

  pub inside : (d : ℕ) → d < used m → d < k.capacity
  inside d less = let room = good.shaped.durable.room in omega arith

  -- a superblock of a large block: whose it is, where that begins, and what the infos are
  pub record IsInLarge (d : ℕ) : Type 0 where
    pub seat : ℕ
    pub view : View
    pub below_count : seat < length views
    pub at : get_or views seat view ≡ view
    pub span : IsSpanned d view.large

  pub in_large : (d : ℕ) → 0 < total (λ (v : View). times_large d v.large) views → IsInLarge d
  in_large d some =
      let one = total_where (λ (v : View). times_large d v.large) views some in
      let once = held_once k words views sound in
      record {
        seat = one.0;
        view = one.1;
        below_count = one.2;
        at = one.3;
        span = spanned d one.1.large
            (λ e. let most = once.large e in let mine = total_at (λ (v : View). times_large e v.large) views one.0 one.1 one.2 one.3 in omega arith)
            ((good.claims one.0 one.1 one.2 one.3).some) one.4;
      }

  -- its info is 0, or that of a large block
  pub large_first : (d : ℕ) (l : IsInLarge d) → info m l.span.first ≡ large_info (span_count l.span.first l.view.large)
  large_first d l = ((good.claims l.seat l.view l.below_count l.at).is_large l.span.first (let low = l.span.low in let high = l.span.high in
      omega arith)).0

  pub large_behind : (d : ℕ) (l : IsInLarge d) → l.span.first ≢ d → info m d ≡ 0
  large_behind d l other = ((good.claims l.seat l.view l.below_count l.at).is_large l.span.first (let low = l.span.low in
      let high = l.span.high in omega arith)).1 d
      (let low = l.span.low in omega (arith, low, other)) l.span.high

  pub large_not_class : (d class : ℕ) → IsClass class → info m d ≡ class → total (λ (v : View). times_large d v.large) views ≡ 0
  large_not_class d class is same = elim (cases_lt 0 (total (λ (v : View). times_large d v.large) views)) as
      (λ _. total (λ (v : View). times_large d v.large) views ≡ 0) [
        | inl some ↦
            let l = in_large d some in
            let least = is.some in
            let most = is.last in
            let high = l.span.high in
            let low = l.span.low in
            elim (cases_eq l.span.first d) as (λ _. total (λ (v : View). times_large d v.large) views ≡ 0) [
              | inl first ↦ let e = ap (info m) (sym first) ∙ large_first d l in absurd (omega (arith, e, same, least, most, high, low))
              | inr other ↦ let e = large_behind d l other in absurd (omega (arith, e, same, least))
            ]
        | inr none ↦ omega arith
      ]

  -- a block that has an owner is in a seat's list of the class of its superblock
  pub record IsInSmall (class b : ℕ) : Type 0 where
    pub seat : ℕ
    pub view : View
    pub below_count : seat < length views
    pub at : get_or views seat view ≡ view
    pub there : 0 < times b (of_class view.small class)

  -- no cache has a block
  cached_none : (i : ℕ) (v : View) → i < length views → get_or views i v ≡ v → (b : ℕ) → total (times b) v.caches ≡ 0
  cached_none i v below at b = elim (cases_lt 0 (total (times b) v.caches)) as (λ _. total (times b) v.caches ≡ 0) [
    | inl some ↦
        let c = which_class b v.caches some in
        let there = c.there in
        let info_is = (good.blocks i v below at).cached c.n b c.there in
        let mine = total_at (times_block b) views i v below at in
        let cap : v.setup.capacity ≡ k.capacity = ap (λ (s : Setup). s.capacity) (good.set_up i v below at).setup in
        let cut = (good.shaped.chained.inside b (omega arith)).0 in
        let class_is : IsClass c.n = subst IsClass (ap (λ n. info m (superblock_of n b)) (sym cap) ∙ info_is)
        (good.shaped.chained.is_class (superblock_of k.capacity b) cut) in
        let none = ap (times b) ((nothing i v below at).empty c.n class_is) in
        absurd (omega (arith, there, none))
    | inr none ↦ omega arith
  ]

  pub in_small : (b : ℕ) → 0 < total (times_block b) views → (class : ℕ) → info m (superblock_of k.capacity b) ≡ class → IsInSmall class b
  in_small b some class is =
      let one = total_where (times_block b) views some in
      let mine = one.4 in
      let cached = cached_none one.0 one.1 one.2 one.3 b in
      let batched = ap (λ (batch : Batch). times b batch.blocks) (nothing one.0 one.1 one.2 one.3).idle.batch in
      let c = which_class b one.1.small (omega arith) in
      let cap : one.1.setup.capacity ≡ k.capacity = ap (λ (s : Setup). s.capacity) (good.set_up one.0 one.1 one.2 one.3).setup in
      let same : c.n ≡ class = sym ((good.blocks one.0 one.1 one.2 one.3).held c.n b c.there) ∙ ap (λ n. info m (superblock_of n b)) cap ∙ is in
      record {
        seat = one.0;
        view = one.1;
        below_count = one.2;
        at = one.3;
        there = subst (λ n. 0 < times b (of_class one.1.small n)) same c.there;
      }
