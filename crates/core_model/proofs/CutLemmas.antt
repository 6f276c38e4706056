-- A superblock is cut: all its blocks are in the cache of its class.
use Rattle.std.proofs.Common.{◌≡◌, ◌≢◌, ℕ, ◌+◌, ◌<◌, ◌≤◌, inl, inr, cond, nat_eq, nat_lt, List, [], get_or, set, length, refl, ap, sym, subst, ◌∙◌, length-set, arith}
use Rattle.std.proofs.lemmas.Bool.{cases_eq, cases_lt}
use Rattle.heap_model.specs.Geometry.{start_word, superblock_of}
use Rattle.heap_model.specs.Sizes.{IsClass}
use Rattle.heap_model.specs.Words.{full_anchor}
use Rattle.heap_model.specs.Chains.{Walks}
use Rattle.heap_model.specs.Counting.{times, total, one_if, without}
use Rattle.core_model.specs.Memory.{Memory, used, durable_used, durable_info, anchor, info, next}
use Rattle.core_model.specs.View.{Setup, View, of_class, times_raw, times_classed, times_large, times_block}
use Rattle.core_model.specs.Effects.{class_blocks, first_of, cleared}
use Rattle.core_model.specs.ViewAfter.{after_cut}
use Rattle.core_model.specs.Guards.{MayCut}
use Rattle.core_model.specs.Sound.{CoreShape, Tally, tally_of, IsInShape, IsCutBlock, IsAnchoredBy, AreChained, HasBlocks, times_parked, times_cut, empties, Good}
use Rattle.core_model.proofs.TotalLemmas.{total_set, total_same, total_at, eq-eqb-one, ne-eqb-none}
use Rattle.core_model.proofs.FrameLemmas.{times_without}
use Rattle.core_model.proofs.EventStepLemmas.{IsSeat, seat_at}
use Rattle.core_model.proofs.OwnLemmas.{length_only}
use Rattle.core_model.proofs.CountLemmas.{block_once}
use Rattle.heap_model.proofs.ListLemmas.{without_less, one_at_most}
use Rattle.core_model.proofs.BlockLemmas.{superblock_is, walks_first, full_anchored, of_class_same, of_class_other, total_lists, at_one, at_other}
use Rattle.core_model.proofs.ShiftLemmas.{shift_step}
use Rattle.core_model.proofs.SpanLemmas as spans
use Rattle.core_model.proofs.RangeLemmas

module _ (k : Setup) (m : Memory) (views : List View) (i : ℕ) (v : View) (below_i : i < length views) (at : get_or views i v ≡ v)
    (good : Good k m views) (d : ℕ) (may : MayCut m v d) (more_draws : v.cuts < v.draws) where
  seat : IsSeat k m good.shape v
  seat = seat_at k m views good i v below_i at

  cap : v.setup.capacity ≡ k.capacity
  cap = ap (λ (s : Setup). s.capacity) seat.set_up.setup

  abbrev class : ℕ
  class = info m d

  abbrev bs : List ℕ
  bs = class_blocks v.setup.capacity class d

  abbrev base : View
  base = record v { caches = set v.caches class bs; cutting = without d v.cutting; seen_anchor = cleared d 1 v.seen_anchor; cuts = v.cuts + 1 }

  abbrev w : View
  w = after_cut m v d

  abbrev g' : CoreShape
  g' = record good.shape { full = λ e. good.shape.full e + one_if (nat_eq d e); chains = λ e. cond (nat_eq e d) [] (good.shape.chains e) }

  same_blocks : bs ≡ class_blocks k.capacity class d
  same_blocks = ap (λ c. class_blocks c class d) cap

  fits : class < length v.caches
  fits = let c = seat.set_up.caches in let last = may.class.last in omega arith

  in_block : (b : ℕ) → 0 < times b bs → IsCutBlock k.capacity class d b × (superblock_of k.capacity b ≡ d)
  in_block b some = let c = RangeLemmas.block_of k.capacity class d b (let e = ap (times b) same_blocks in omega arith) in
      (c, superblock_is k.capacity class d b may.class c)

  is_full : anchor m d ≡ full_anchor
  is_full = seat.claims.is_cutting d may.cutting

  raw_d : 0 < total (times_raw d) views
  raw_d = let some = may.cutting in let t = total_at (times_raw d) views i v below_i at in omega arith

  not_cut : times_cut good.shape (tally_of views) d ≡ 0
  not_cut = let r = raw_d in let p = good.shaped.placed.one_place d in let most = one_at_most (nat_lt d (used m)) in omega arith

  raw_is : (e : ℕ) → times_raw e w + one_if (nat_eq d e) ≡ times_raw e v
  raw_is e = let z = times_without e d v.cutting may.cutting in omega arith

  block_is : (b : ℕ) → times_block b w ≡ times_block b v + times b bs
  block_is b = let t = total_lists b v.caches class bs fits in let none = ap (times b) may.uncached in omega arith

  raw' : ℕ → ℕ
  raw' e = total (times_raw e) (set views i w)

  blocks' : ℕ → ℕ
  blocks' b = total (times_block b) (set views i w)

  abbrev t' : Tally
  t' = record (tally_of views) { raw = raw'; blocks = blocks' }

  raw_are : (e : ℕ) → raw' e + one_if (nat_eq d e) ≡ total (times_raw e) views
  unfolding raw'
  raw_are e = let s = total_set (times_raw e) views i v w below_i at in let z = raw_is e in omega arith

  blocks_are : (b : ℕ) → blocks' b ≡ total (times_block b) views + times b bs
  unfolding blocks'
  blocks_are b = let s = total_set (times_block b) views i v w below_i at in let z = block_is b in omega arith

  tally : tally_of (set views i w) ≡ t'
  unfolding raw' blocks'
  tally = λ j. record {
    raw = raw';
    classed = λ e. (total_same (λ (x : View). times_classed e x.classed) views i v w below_i at refl) j;
    large = λ e. (total_same (λ (x : View). times_large e x.large) views i v w below_i at refl) j;
    blocks = blocks';
  }

  old_cut : (e : ℕ) → e ≢ d → 0 < times_cut g' t' e → 0 < times_cut good.shape (tally_of views) e
  old_cut e other some = let n = ne-eqb-none d e (λ z. other (sym z)) in omega arith

  -- no block of it was anywhere
  none_yet : (b : ℕ) → superblock_of k.capacity b ≡ d → total (times_block b) views ≡ 0
  none_yet b here = elim (cases_lt 0 (total (times_block b) views)) [
    | inl some ↦ absurd (let c = (good.shaped.chained.inside b some).0 in let n = not_cut in
        let e = ap (times_cut good.shape (tally_of views)) here in omega arith)
    | inr none ↦ omega arith
  ]

  chained : AreChained k.capacity (info m) (anchor m) (next m) g'.chains (times_cut g' t') blocks'
  chained = let c = good.shaped.chained in record {
    is_class = λ e some. elim (cases_eq e d) [
      | inl same ↦ subst (λ x. IsClass (info m x)) (sym same) may.class
      | inr other ↦ c.is_class e
          (old_cut e other some)
    ];
    anchored = λ e some. elim (cases_eq e d) as (λ _. IsAnchoredBy (next m) k.capacity (info m e) e (anchor m e) (g'.chains e)) [
      | inl same ↦ subst (λ x. IsAnchoredBy (next m) k.capacity (info m x) x (anchor m x) (g'.chains x)) (sym same)
          (subst (λ x. IsAnchoredBy (next m) k.capacity class d x (g'.chains d)) (sym is_full)
          (subst (IsAnchoredBy (next m) k.capacity class d full_anchor) (sym (at_one good.shape.chains d [] d refl))
          (full_anchored (next m) k.capacity class d may.class)))
      | inr other ↦ subst (IsAnchoredBy (next m) k.capacity (info m e) e (anchor m e)) (sym (at_other good.shape.chains d [] e other))
          (c.anchored e (old_cut e other some))
    ];
    owned = λ e b some is. let all = blocks_are b in elim (cases_eq e d) as (λ _. times b (g'.chains e) + blocks' b ≡ 1) [
      | inl same ↦ let block : IsCutBlock k.capacity class d b = subst (λ x. IsCutBlock k.capacity (info m x) x b) same is in
          let none = ap (times b) (at_one good.shape.chains d [] e same) in let one = block_once k.capacity class d b may.class block in
          let z = ap (times b) same_blocks in
          let before_it = none_yet b (superblock_is k.capacity class d b may.class block) in omega arith
      | inr other ↦ let cut_e = old_cut e other some in let old = c.owned e b cut_e is in
          let same_chain = ap (times b) (at_other good.shape.chains d [] e other) in
          let none : times b bs ≡ 0 = elim (cases_lt 0 (times b bs)) [
            | inl there ↦ absurd (other (sym (superblock_is k.capacity (info m e) e b (c.is_class e cut_e) is) ∙ (in_block b there).1))
            | inr gone ↦ omega arith
          ] in omega arith
    ];
    chained = λ e b some there. elim (cases_eq e d) as (λ _. IsCutBlock k.capacity (info m e) e b) [
      | inl same ↦ absurd (let none = ap (times b) (at_one good.shape.chains d [] e same) in omega arith)
      | inr other ↦ c.chained e b (old_cut e other some) (let z = ap (times b) (at_other good.shape.chains d [] e other) in omega arith)
    ];
    inside = λ b some. elim (cases_lt 0 (total (times_block b) views)) [
      | inl old ↦ let o = c.inside b old in (let y = o.0 in omega arith, o.1)
      | inr none ↦ let here = in_block b (let all = blocks_are b in omega arith) in (
        subst (λ x. 0 < times_cut g' t' x) (sym here.1) (let one = eq-eqb-one d d refl in omega arith),
        subst (λ x. IsCutBlock k.capacity (info m x) x b) (sym here.1) here.0,
      )
    ];
  }

  blocks_now : HasBlocks v.setup.capacity (info m) (next m) v.small (set v.caches class bs) v.batch
  blocks_now = let s = seat.blocks in record {
    held = s.held;
    cached = λ n b some. elim (cases_eq n class) as (λ _. info m (superblock_of v.setup.capacity b) ≡ n) [
      | inl same ↦ let here = in_block b (let e = ap (times b) (of_class_same v.caches class bs n same fits) in omega arith) in
          ap (λ c. info m (superblock_of c b)) cap ∙ ap (info m) here.1 ∙ sym same
      | inr other ↦ s.cached n b (let z = ap (times b) (of_class_other v.caches class bs n other) in omega arith)
    ];
    batched = s.batched;
    cache_linked = λ n. elim (cases_eq n class) as (λ _. Walks (next m) (first_of (of_class (set v.caches class bs) n))
        (of_class (set v.caches class bs) n)) [
          | inl same ↦ subst (λ xs. Walks (next m) (first_of xs) xs) (sym (of_class_same v.caches class bs n same fits))
              (walks_first (next m) (start_word v.setup.capacity d) bs may.linked)
          | inr other ↦ subst (λ xs. Walks (next m) (first_of xs) xs) (sym (of_class_other v.caches class bs n other)) (s.cache_linked n)
        ];
    batch_linked = s.batch_linked;
  }

  raw_out : (e : ℕ) → (d ≤ e → e < d + 1 → ⊥) → times_raw e v ≤ times_raw e w
  raw_out e out = let z = raw_is e in let n = ne-eqb-none d e (λ same. out (omega (arith, same)) (omega (arith, same))) in omega arith

  pub cut : Good k m (set views i w)
  cut = shift_step k m views i v below_i at good w g' refl
      (subst (IsInShape k.capacity m g') (sym tally) (let s = good.shaped in record {
        lists = s.lists;
        placed = record { one_place = λ e. let old = s.placed.one_place e in let r = raw_are e in omega arith };
        untaken = s.untaken;
        listed = record {
          free = s.listed.free;
          in_class = s.listed.in_class;
          is_full = λ e some. elim (cases_eq d e) as (λ _. anchor m e ≡ full_anchor) [
            | inl same ↦ ap (anchor m) (sym same) ∙ is_full
            | inr other ↦ s.listed.is_full e (let n = ne-eqb-none d e other in omega arith)
          ];
        };
        chained = chained;
        durable = (let y = s.durable in record {
          behind = y.behind;
          room = y.room;
          below = λ e some. elim (cases_eq d e) as (λ _. e < durable_used m)
              [ inl same ↦ subst (λ x. x < durable_used m) same may.durable | inr other ↦ y.below e (let n = ne-eqb-none d e other in omega arith) ];
          infos = λ e some. elim (cases_eq d e) as (λ _. durable_info m e ≡ info m e) [
            | inl same ↦ subst (λ x. durable_info m x ≡ info m x) same may.durable_class
            | inr other ↦ y.infos e
                (let n = ne-eqb-none d e other in omega arith)
          ];
        });
      }))
      (let s = seat.set_up in record {
        set_up = record {
          setup = s.setup;
          roots = s.roots;
          small = s.small;
          caches = length-set v.caches class bs ∙ s.caches;
          looks = s.looks;
          volatile = length_only base 0 v.volatile ∙ s.volatile;
          durable = length_only base 0 v.durable ∙ s.durable;
        };
        claims = (let c = seat.claims in record {
          is_raw = c.is_raw;
          is_split = c.is_split;
          is_cutting = λ e some. c.is_cutting e (let l = without_less e d v.cutting in omega arith);
          is_classed = c.is_classed;
          is_large = c.is_large;
          is_part = c.is_part;
          some = c.some;
        });
        blocks = blocks_now;
        knows = spans.knows_after k m views i v below_i at good d 1 w g' refl refl refl refl refl refl refl refl refl raw_out seat.knows.floor;
        words = spans.words_after k m views i v below_i at good base refl refl refl;
        tickets = (let t = seat.tickets in record {
          ticket = t.ticket;
          last = t.last;
          used_look = t.used_look;
          head_looks = t.head_looks;
          counts = t.counts;
          state = t.state;
          looked_then = t.looked_then;
          gives = t.gives;
          cuts = omega arith;
        });
      })
      refl refl refl refl (spans.stale_after k m views i v below_i at good d 1 w refl refl refl raw_out)
      (let e = ap (λ (t : Tally). empties k.capacity (anchor m) (times_parked g' t)) tally in omega arith)
