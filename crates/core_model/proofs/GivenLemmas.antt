-- What a give leaves: the anchor, the chain behind it, and what other seats have of the superblock.
use Rattle.std.proofs.Common.{◌≡◌, ◌≢◌, ℕ, ◌+◌, ◌-◌, ◌*◌, ◌/◌, ◌<◌, ◌≤◌, inl, inr, Bool, true, false, cond, ◌&&◌, nat_eq, nat_lt, List, [], ◌∷◌, ◌++◌, get_or, length, None, refl, ap, ap₂, sym, subst, ◌∙◌, eq-eqb, ne_eqb, mul-div_cancel, length-append, arith}
use Rattle.std.proofs.lemmas.Bool.{cases_eq, cases_lt}
use Rattle.heap_model.specs.Geometry.{start_word, superblock_of}
use Rattle.heap_model.specs.Sizes.{IsClass, words_of_class, blocks_of}
use Rattle.heap_model.specs.Words.{anchor_state, anchor_first, anchor_count, empty_state, partial_state, full_state}
use Rattle.heap_model.specs.Chains.{Walks, after}
use Rattle.heap_model.specs.Counting.{times, total, one_if}
use Rattle.heap_model.proofs.SizeLemmas.{two_words, few_blocks}
use Rattle.core_model.specs.Cells.{anchor_cell}
use Rattle.core_model.specs.Memory.{Memory, volatile_at, anchor, info, next, write}
use Rattle.core_model.specs.View.{Setup, View, Batch, no_batch, times_raw, times_large, times_block}
use Rattle.core_model.specs.Effects.{seen_word, steps, first_of, last_of, won, batch_anchor}
use Rattle.core_model.specs.Guards.{IsThere, MayGive}
use Rattle.core_model.specs.Sound.{CoreShape, tally_of, IsCutBlock, IsAnchoredBy, AreChained, ClaimsOf, HasBlocks, times_parked, times_cut, empties, Good}
use Rattle.core_model.proofs.TotalLemmas.{total_at, total_change}
use Rattle.core_model.proofs.FrameLemmas.{times_steps, below_is, below_not}
use Rattle.heap_model.proofs.ListLemmas.{times_append, one_at_most}
use Rattle.core_model.proofs.EventStepLemmas.{IsSeat, seat_at}
use Rattle.core_model.proofs.CountLemmas.{all_home, chain_short}
use Rattle.core_model.proofs.BlockLemmas.{superblock_is, walks_append, after_last, at_one, at_other, first_there}
use Rattle.heap_model.proofs.WordLemmas.{anchor_parts}
use Rattle.core_model.proofs.AnchorLemmas as on_anchor

module _ (k : Setup) (m : Memory) (views : List View) (i : ℕ) (v : View) (below_i : i < length views) (at : get_or views i v ≡ v)
    (good : Good k m views)
    (ticket : IsThere v.ticket) (d : ℕ) (may : MayGive m v d) (as_seen : anchor m d ≡ seen_word v.seen_anchor) where
  pub seat : IsSeat k m good.shape v
  seat = seat_at k m views good i v below_i at

  abbrev pub bs : List ℕ
  bs = v.batch.blocks

  abbrev pub class : ℕ
  class = v.batch.class

  abbrev pub word : ℕ
  word = seen_word v.seen_anchor

  abbrev pub x : ℕ
  x = batch_anchor v d

  abbrev pub m' : Memory
  m' = write m (volatile_at (anchor_cell d)) x

  cap : v.setup.capacity ≡ k.capacity
  cap = ap (λ (s : Setup). s.capacity) seat.set_up.setup

  some_length : 0 < length bs
  some_length = let s = may.some in omega arith

  -- each block of the batch is of the superblock
  out : (b : ℕ) → 0 < times b bs → 0 < (tally_of views).blocks b
  out b some = let t = total_at (times_block b) views i v below_i at in omega arith

  of_batch : (b : ℕ) → 0 < times b bs → (superblock_of k.capacity b ≡ d) × (info m d ≡ class)
  of_batch b some = let s = seat.blocks.batched b some in
      (ap (λ c. superblock_of c b) (sym cap) ∙ s.0 ∙ may.batch, ap (info m) (sym may.batch) ∙ s.1)

  pub info_is : info m d ≡ class
  info_is = (of_batch (first_of bs) (first_there bs may.some)).1

  pub cut_d : 0 < times_cut good.shape (tally_of views) d
  cut_d = let b = first_of bs in let some = first_there bs may.some in
      subst (λ e. 0 < times_cut good.shape (tally_of views) e) (of_batch b some).0 (good.shaped.chained.inside b (out b some)).0

  pub in_batch : (b : ℕ) → 0 < times b bs → IsCutBlock k.capacity class d b
  in_batch b some = let here = of_batch b some in
      subst (λ c. IsCutBlock k.capacity c d b) info_is (subst (λ e. IsCutBlock k.capacity (info m e) e b) here.0
      (good.shaped.chained.inside b (out b some)).1)

  pub is_class : IsClass class
  is_class = subst IsClass info_is (good.shaped.chained.is_class d cut_d)

  pub anchored : IsAnchoredBy (next m) k.capacity class d (anchor m d) (good.shape.chains d)
  anchored = on_anchor.anchored k m views i v below_i at good d x cut_d class info_is

  abbrev pub chain' : List ℕ
  chain' = bs ++ good.shape.chains d

  -- the new anchor
  pub first_block : IsCutBlock k.capacity class d (first_of bs)
  first_block = in_batch (first_of bs) (first_there bs may.some)

  pub index_is : (first_of bs - start_word v.setup.capacity d) / words_of_class class ≡ first_block.index
  index_is =
      let e : first_of bs - start_word v.setup.capacity d ≡ first_block.index * words_of_class class = (let z = first_block.at in let c = cap in
      omega arith) in
      let two = two_words class is_class in
      ap (λ n. n / words_of_class class) e ∙ mul-div_cancel first_block.index {n = words_of_class class} (omega arith)

  pub count_is : length bs + anchor_count word ≡ length chain'
  count_is = let b = length-append bs (good.shape.chains d) in let c = anchored.count in let z = ap anchor_count as_seen in omega arith

  -- the word is an anchor, and no more blocks are free then than the superblock has
  pub state_fits : anchor_state (anchor m d) < 3
  state_fits = elim (cases_eq (length (good.shape.chains d)) 0) [
    | inl none ↦ let e = ap anchor_state (anchored.full.1 none) in let two : anchor_state 2 ≡ 2 = refl in omega arith
    | inr some_free ↦ elim (cases_eq (length (good.shape.chains d)) (blocks_of class)) [
      | inl all ↦ let e = anchored.empty.1 all in omega arith
      | inr part ↦ let e = anchored.partial some_free part in omega arith
    ]
  ]

  pub count_fits : length chain' ≤ blocks_of class
  count_fits = chain_short k.capacity class d chain' is_class
      (λ b there. let both = times_append b bs (good.shape.chains d) in elim (cases_lt 0 (times b bs)) [
        | inl mine ↦ in_batch b mine
        | inr rest ↦ subst (λ n. IsCutBlock k.capacity n d b) info_is (good.shaped.chained.chained d b cut_d (omega arith))
      ])
      (λ b is. let both = times_append b bs (good.shape.chains d) in
      let o = good.shaped.chained.owned d b cut_d (subst (λ n. IsCutBlock k.capacity n d b) (sym info_is) is) in
      let tot = total_at (times_block b) views i v below_i at in omega arith)

  abbrev state' : ℕ
  state' = cond (nat_eq (length bs + anchor_count word) (blocks_of class)) empty_state partial_state

  state_small : state' < 2
  state_small = by_test (nat_eq (length bs + anchor_count word) (blocks_of class)) where
    by_test : (test : Bool) → cond test empty_state partial_state < 2
    by_test true = omega arith
    by_test false = omega arith

  parts : (anchor_state x ≡ state') × (anchor_first x ≡ first_block.index) × (anchor_count x ≡ length chain')
  parts = let few = few_blocks class is_class in let below = first_block.below in let small = state_small in
      let p = anchor_parts state' ((first_of bs - start_word v.setup.capacity d) / words_of_class class) (length bs + anchor_count word)
      (omega arith) (let e = index_is in omega arith) in
      (p.0, p.1 ∙ index_is, p.2 ∙ count_is)

  pub state_x : anchor_state x < full_state
  state_x = let p = parts.0 in let s = state_small in omega arith

  walks : Walks (next m) (start_word k.capacity d + anchor_first x * words_of_class class) chain'
  walks = subst (λ f. Walks (next m) f chain') from_is (walks_append (next m) (first_of bs) bs
      (good.shape.chains d) seat.blocks.batch_linked behind) where
        from_is : first_of bs ≡ start_word k.capacity d + anchor_first x * words_of_class class
        from_is = first_block.at ∙ ap (λ n. start_word k.capacity d + n * words_of_class class) (sym parts.1)

        behind : Walks (next m) (after (next m) (first_of bs) bs) (good.shape.chains d)
        behind = by_chain (good.shape.chains d) anchored.walks anchored.count where
          last_leads : (xs : List ℕ) → 0 < length xs → Walks (next m) (first_of xs) xs → after (next m) (first_of xs) xs ≡ next m (last_of xs)
          last_leads [] some w = absurd (omega arith)
          last_leads (b ∷ xs) some w = after_last (next m) b b xs w

          by_chain : (cs : List ℕ) → Walks (next m) (start_word k.capacity d + anchor_first (anchor m d) * words_of_class class) cs
              → anchor_count (anchor m d) ≡ length cs → Walks (next m) (after (next m) (first_of bs) bs) cs
          by_chain [] w n = tt
          by_chain (c ∷ cs) w n = subst (λ f. Walks (next m) f (c ∷ cs))
              (sym (last_leads bs some_length seat.blocks.batch_linked ∙ may.linked (λ z. let e = ap anchor_count as_seen in omega (arith, z, n))
              ∙ ap (λ y. start_word y d + anchor_first word * words_of_class class) cap
              ∙ ap (λ a. start_word k.capacity d + anchor_first a * words_of_class class) (sym as_seen))) w

  state_full : length chain' ≡ blocks_of class → anchor_state x ≡ empty_state
  state_full all = parts.0 ∙ ap (λ t. cond t empty_state partial_state) (eq-eqb (length bs + anchor_count word) (blocks_of class) (count_is ∙ all))

  state_part : length chain' ≢ blocks_of class → anchor_state x ≡ partial_state
  state_part some = parts.0 ∙ ap (λ t. cond t empty_state partial_state)
      (ne_eqb (length bs + anchor_count word) (blocks_of class) (λ z. some (sym count_is ∙ z)))

  anchored_now : IsAnchoredBy (next m) k.capacity class d x chain'
  anchored_now = record {
    walks = walks;
    count = parts.2;
    empty = (
      λ e. elim (cases_eq (length chain') (blocks_of class)) as
          (λ _. length chain' ≡ blocks_of class) [ inl all ↦ all | inr some ↦ absurd (let p = state_part some in omega (arith, p, e)) ],
      state_full,
    );
    full = (
      λ e. absurd (let s = state_x in let z : anchor_state x ≡ anchor_state 2 = ap anchor_state e in two_not z s),
      λ e. absurd (let a = length-append bs (good.shape.chains d) in let s = some_length in omega arith),
    );
    partial = λ some not_all. state_part not_all;
  } where
    two_not : anchor_state x ≡ anchor_state 2 → anchor_state x < 2 → ⊥
    two_not e less = omega (arith, e, less)

  -- the parts of the seat without the batch
  pub blocks_less : (b : ℕ) (w : View) → w.small ≡ v.small → w.caches ≡ v.caches → w.batch ≡ no_batch → times_block b w + times b bs ≡ times_block b v
  blocks_less b w small caches batch = let s = ap (λ y. total (times b) y) small in let c = ap (λ y. total (times b) y) caches in
      let n = ap (λ (y : Batch). times b y.blocks) batch in omega arith

  -- the anchor was not empty, since the batch was out
  was_not_empty : anchor_state (anchor m d) ≡ empty_state → ⊥
  was_not_empty empty =
      let c = good.shaped.chained in let b = first_of bs in let some = first_there bs may.some in
      let all = all_home k.capacity class d (good.shape.chains d) is_class (anchored.empty.0 empty)
      (λ y there. subst (λ c. IsCutBlock k.capacity c d y) info_is (c.chained d y cut_d there))
      (λ y is. let o = c.owned d y cut_d (subst (λ c. IsCutBlock k.capacity c d y) (sym info_is) is) in omega arith) b first_block in
      let o = c.owned d b cut_d (subst (λ c. IsCutBlock k.capacity c d b) (sym info_is) first_block) in let t = out b some in omega arith

  chain_at : (e : ℕ) → e ≡ d → cond (nat_eq e d) chain' (good.shape.chains e) ≡ chain'
  chain_at e same = ap (λ t. cond t chain' (good.shape.chains e)) (eq-eqb e d same)

  chain_other : (e : ℕ) → e ≢ d → cond (nat_eq e d) chain' (good.shape.chains e) ≡ good.shape.chains e
  chain_other e other = ap (λ t. cond t chain' (good.shape.chains e)) (ne_eqb e d other)

  pub chained : (cut' blocks' : ℕ → ℕ) → ((e : ℕ) → cut' e ≡ times_cut good.shape (tally_of views) e)
      → ((b : ℕ) → blocks' b + times b bs ≡ (tally_of views).blocks b)
      → AreChained k.capacity (info m) (anchor m') (next m) (λ e. cond (nat_eq e d) chain' (good.shape.chains e)) cut' blocks'
  chained cut' blocks' cut_same blocks_are = let c = good.shaped.chained in record {
    is_class = λ e some. c.is_class e (let z = cut_same e in omega arith);
    anchored = λ e some. elim (cases_eq e d) as (λ _. IsAnchoredBy (next m) k.capacity (info m e) e (anchor m' e)
        (cond (nat_eq e d) chain' (good.shape.chains e))) [
          | inl same ↦ subst (λ y. IsAnchoredBy (next m) k.capacity (info m e) e y (cond (nat_eq e d) chain' (good.shape.chains e)))
              (sym (at_one (anchor m) d x e same))
              (subst (IsAnchoredBy (next m) k.capacity (info m e) e x) (sym (chain_at e same))
              (subst (λ y. IsAnchoredBy (next m) k.capacity (info m y) y x chain') (sym same)
              (subst (λ c. IsAnchoredBy (next m) k.capacity c d x chain') (sym info_is) anchored_now)))
          | inr other ↦ subst (λ y. IsAnchoredBy (next m) k.capacity (info m e) e y (cond (nat_eq e d) chain' (good.shape.chains e)))
              (sym (at_other (anchor m) d x e other))
              (subst (IsAnchoredBy (next m) k.capacity (info m e) e (anchor m e)) (sym (chain_other e other))
              (c.anchored e (let z = cut_same e in omega arith)))
        ];
    owned = λ e b some is. let cut_e : 0 < times_cut good.shape (tally_of views) e = (let z = cut_same e in omega arith) in
        let old = c.owned e b cut_e is in let all = blocks_are b in
        elim (cases_eq e d) as (λ _. times b (cond (nat_eq e d) chain' (good.shape.chains e)) + blocks' b ≡ 1) [
          | inl same ↦ let now = ap (times b) (chain_at e same) in let both = times_append b bs (good.shape.chains d) in
              let z = ap (λ y. times b (good.shape.chains y)) same in omega arith
          | inr other ↦ let same_chain = ap (times b) (chain_other e other) in
              let none : times b bs ≡ 0 = elim (cases_lt 0 (times b bs)) [
                | inl there ↦ absurd (other (sym (superblock_is k.capacity (info m e) e b (c.is_class e cut_e) is) ∙ (of_batch b there).0))
                | inr gone ↦ omega arith
              ] in omega arith
        ];
    chained = λ e b some there. elim (cases_eq e d) as (λ _. IsCutBlock k.capacity (info m e) e b) [
      | inl same ↦ subst (λ y. IsCutBlock k.capacity (info m y) y b) (sym same) (let now = ap (times b) (chain_at e same) in
          let both = times_append b bs (good.shape.chains d) in
          elim (cases_lt 0 (times b bs)) [
            | inl batched ↦ subst (λ c. IsCutBlock k.capacity c d b) (sym info_is)
                (in_batch b batched)
            | inr rest ↦ c.chained d b cut_d (omega arith)
          ])
      | inr other ↦ c.chained e b (let z = cut_same e in omega arith) (let z = ap (times b) (chain_other e other) in omega arith)
    ];
    inside = λ b some. let o = c.inside b (let z = blocks_are b in omega arith) in
        (let z = cut_same (superblock_of k.capacity b) in let y = o.0 in omega arith, o.1);
  }

  abbrev pub w0 : View
  w0 = record (won v) { batch = no_batch; seen_anchor = None; gives = v.gives + 1 }

  none_here : (times_raw d v ≡ 0) × (times_large d v.large ≡ 0)
  none_here = on_anchor.not_here k m views i v below_i at good d x cut_d i v below_i at

  -- what the seat says of its claims, with the new anchor
  pub claims_now : ClaimsOf m' v
  claims_now = let none = none_here.0 in on_anchor.claims_anchor (info m) (anchor m) d x v.raw v.split v.cutting v.classed v.large (omega arith)
      (omega arith) (omega arith) none_here.1 (λ some. state_x) seat.claims

  pub blocks_now : HasBlocks v.setup.capacity (info m) (next m) v.small v.caches no_batch
  blocks_now = let s = seat.blocks in record {
    held = s.held;
    cached = s.cached;
    batched = λ b some. absurd (omega (arith, some));
    cache_linked = s.cache_linked;
    batch_linked = tt;
  }

  pub others : (g : CoreShape) → g.lists ≡ good.shape.lists → (j : ℕ) (u : View) → j < length views → get_or views j u ≡ u → IsSeat k m good.shape u
      → IsSeat k m' g u
  others g same_lists j u b a h = on_anchor.others k m views i v below_i at good d x cut_d g same_lists j u b a
      (λ some. (state_x, λ empty. absurd (was_not_empty empty))) h

  -- at most one superblock more is empty
  pub empties_most : (parked' : ℕ → ℕ) → ((e : ℕ) → e ≢ d → parked' e ≡ times_parked good.shape (tally_of views) e)
      → empties k.capacity (anchor m') parked' ≤ empties k.capacity (anchor m) (times_parked good.shape (tally_of views)) + 1
  empties_most parked' same =
      let step = total_change old_at new_at d (steps 0 1 k.capacity)
      (λ e other. ap₂ (λ n a. one_if (nat_lt 0 n && nat_eq (anchor_state a) empty_state)) (same e other) (at_other (anchor m) d x e other))
      (let t = times_steps d 0 k.capacity in let a = below_not d 0 (omega arith) in
      let small : d < k.capacity = (let p = (on_anchor.alone k m views i v below_i at good d x cut_d).4 in let r = good.shaped.durable.room in
      omega arith) in
      let b = below_is d (0 + k.capacity) (omega arith) in omega arith) in
      let most = one_at_most (nat_lt 0 (parked' d) && nat_eq (anchor_state (anchor m' d)) empty_state) in omega arith where
        old_at : ℕ → ℕ
        old_at e = one_if (nat_lt 0 (times_parked good.shape (tally_of views) e) && nat_eq (anchor_state (anchor m e)) empty_state)

        new_at : ℕ → ℕ
        new_at e = one_if (nat_lt 0 (parked' e) && nat_eq (anchor_state (anchor m' e)) empty_state)
