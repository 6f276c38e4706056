-- A word is own to at most one seat.
use Rattle.std.proofs.Common.{◌≡◌, ◌≢◌, ℕ, zero, suc, ◌+◌, ◌*◌, ◌<◌, ◌≤◌, inl, inr, nat_lt, List, [], ◌∷◌, get_or, length, refl, ap, sym, subst, ◌∙◌, arith}
use Rattle.std.proofs.lemmas.Bool.{cases_lt, cases_order}
use Rattle.heap_model.specs.Geometry.{start_word, superblock_of}
use Rattle.heap_model.specs.Sizes.{IsClass, words_of_class}
use Rattle.heap_model.specs.Counting.{times, total}
use Rattle.heap_model.proofs.BlockLemmas.{block_step}
use Rattle.heap_model.proofs.SizeLemmas.{two_words}
use Rattle.core_model.specs.Cells.{Cell, used_cell, head_cell, info_cell, anchor_cell, link_cell, root_cell, data_cell, no_cell}
use Rattle.core_model.specs.Memory.{Memory, info, used}
use Rattle.core_model.specs.View.{Setup, View, times_own, times_raw, times_classed, times_large, times_block, times_within, times_in_classes}
use Rattle.core_model.specs.Guards.{IsOwn}
use Rattle.core_model.specs.Sound.{tally_of, IsCutBlock, times_cut, Good}
use Rattle.core_model.proofs.TotalLemmas.{total_at, total_two}
use Rattle.heap_model.proofs.ListLemmas.{one_at_most}
use Rattle.core_model.proofs.BlockLemmas.{inside_of}
use Rattle.core_model.proofs.WithinLemmas.{in_classes_own, within_own, IsWithin, some_in_classes, some_within, in_classes_most, within_most}

-- a block by class is one of the list
pub in_lists_total : (b n : ℕ) (lists : List (List ℕ)) → 0 < times b (get_or lists n []) → 0 < total (times b) lists
in_lists_total b n [] some = absurd (omega arith)
in_lists_total b zero (bs ∷ lists) some = omega arith
in_lists_total b (suc n) (bs ∷ lists) some = let rest = in_lists_total b n lists some in omega arith

-- how often the word is in the seat's blocks
abbrev pub in_blocks : View → ℕ → ℕ
in_blocks v word = times_in_classes word 0 v.small + times_in_classes word 0 v.caches + times_within (words_of_class v.batch.class) word v.batch.blocks

-- two blocks of a superblock that have one word are one
pub same_block : (c class d word b b' : ℕ) → IsCutBlock c class d b → IsCutBlock c class d b' → b ≤ word → word < b + words_of_class class
    → b' ≤ word → word < b' + words_of_class class → b ≡ b'
same_block c class d word b b' p q from until from' until' =
    elim (cases_order p.index q.index) as (λ _. b ≡ b') [
      | inl one ↦ p.at ∙ ap (λ n. start_word c d + n * words_of_class class) one ∙ sym q.at
      | inr two ↦ elim two as (λ _. b ≡ b') [
        | inl less ↦ absurd (let step = block_step p.index q.index (words_of_class class) less in let a = p.at in let e = q.at in omega arith)
        | inr more ↦ absurd (let step = block_step q.index p.index (words_of_class class) more in let a = p.at in let e = q.at in omega arith)
      ]
    ]

-- the list that has an entry
pub record HasClass (b : ℕ) (lists : List (List ℕ)) : Type 0 where
  pub n : ℕ
  pub there : 0 < times b (get_or lists n [])

pub which_class : (b : ℕ) (lists : List (List ℕ)) → 0 < total (times b) lists → HasClass b lists
which_class b [] some = absurd (omega arith)
which_class b (bs ∷ lists) some = elim (cases_lt 0 (times b bs)) [
  | inl here ↦ record { n = 0; there = here }
  | inr none ↦ let r = which_class b lists (omega arith) in record { n = suc r.n; there = r.there }
]

module _ (k : Setup) (m : Memory) (views : List View) (good : Good k m views) where
  -- the first word of a seat's block is its own
  pub own_first : (j : ℕ) (v : View) → j < length views → get_or views j v ≡ v → (b : ℕ) → 0 < times_block b v → 0 < in_blocks v b
  own_first j v below_j at_j b some =
      let t = total_at (times_block b) views j v below_j at_j in
      let inside = good.shaped.chained.inside b (omega arith) in
      let cap : v.setup.capacity ≡ k.capacity = ap (λ (s : Setup). s.capacity) (good.set_up j v below_j at_j).setup in
      let is_class = good.shaped.chained.is_class (superblock_of k.capacity b) inside.0 in
      let s = good.blocks j v below_j at_j in
      elim (cases_lt 0 (total (times b) v.small)) [
        | inl small ↦ let h = which_class b v.small small in
            let is : IsClass (0 + h.n) = subst IsClass (ap (λ c. info m (superblock_of c b)) (sym cap) ∙ s.held h.n b h.there
            ∙ (let e : h.n ≡ 0 + h.n = omega arith in e)) is_class in
            let own = in_classes_own b 0 h.n v.small (let two = two_words (0 + h.n) is in omega arith) h.there in omega arith
        | inr not_small ↦ elim (cases_lt 0 (total (times b) v.caches)) [
          | inl cached ↦ let h = which_class b v.caches cached in
              let is : IsClass (0 + h.n) = subst IsClass (ap (λ c. info m (superblock_of c b)) (sym cap) ∙ s.cached h.n b h.there
              ∙ (let e : h.n ≡ 0 + h.n = omega arith in e)) is_class in
              let own = in_classes_own b 0 h.n v.caches (let two = two_words (0 + h.n) is in omega arith) h.there in omega arith
          | inr not_cached ↦ let q = s.batched b (omega arith) in
              let is : IsClass v.batch.class = subst IsClass (ap (λ c. info m (superblock_of c b)) (sym cap) ∙ ap (info m) q.0 ∙ q.1) is_class in
              let own = within_own (words_of_class v.batch.class) b v.batch.blocks (let two = two_words v.batch.class is in
              omega arith) (omega arith) in omega arith
        ]
      ]

  -- a block that has the word is the seat's, and of the superblock that the word lies in
  pub record Covers (v : View) (word b : ℕ) : Type 0 where
    pub class : ℕ
    pub owned : 0 < times_block b v
    pub info_is : info m (superblock_of k.capacity word) ≡ class
    pub cut : 0 < times_cut good.shape (tally_of views) (superblock_of k.capacity word)
    pub is : IsCutBlock k.capacity class (superblock_of k.capacity word) b
    pub from : b ≤ word
    pub until : word < b + words_of_class class

  covers : (j : ℕ) (v : View) → j < length views → get_or views j v ≡ v → (class word b : ℕ) → 0 < times_block b v
      → info m (superblock_of v.setup.capacity b) ≡ class → IsWithin (words_of_class class) word b → Covers v word b
  covers j v below_j at_j class word b some info_b within =
      let t = total_at (times_block b) views j v below_j at_j in
      let inside = good.shaped.chained.inside b (omega arith) in
      let cap : v.setup.capacity ≡ k.capacity = ap (λ (s : Setup). s.capacity) (good.set_up j v below_j at_j).setup in
      let info_k : info m (superblock_of k.capacity b) ≡ class = ap (λ c. info m (superblock_of c b)) (sym cap) ∙ info_b in
      let is_class : IsClass class = subst IsClass info_k (good.shaped.chained.is_class (superblock_of k.capacity b) inside.0) in
      let block : IsCutBlock k.capacity class (superblock_of k.capacity b) b =
      subst (λ c. IsCutBlock k.capacity c (superblock_of k.capacity b) b) info_k inside.1 in
      let place = inside_of k.capacity class (superblock_of k.capacity b) b is_class block in
      let low = place.0 in let high = place.1 in let f = within.from in let u = within.until in
      let same : superblock_of k.capacity b ≡ superblock_of k.capacity word = by_bounds (superblock_of k.capacity b) low high f u in
      record {
        class = class;
        owned = some;
        info_is = ap (info m) (sym same) ∙ info_k;
        cut = subst (λ d. 0 < times_cut good.shape (tally_of views) d) same inside.0;
        is = subst (λ d. IsCutBlock k.capacity class d b) same block;
        from = within.from;
        until = within.until;
      } where
        by_bounds : (d : ℕ) → start_word k.capacity d ≤ b → b + words_of_class class ≤ start_word k.capacity (d + 1) → b ≤ word
            → word < b + words_of_class class → d ≡ superblock_of k.capacity word
        by_bounds d low high f u = omega arith

  -- two such blocks are one
  pub covers_one : (u v : View) (word b c : ℕ) → Covers u word b → Covers v word c → b ≡ c
  covers_one u v word b c p q =
      let same : q.class ≡ p.class = sym q.info_is ∙ p.info_is in
      same_block k.capacity p.class (superblock_of k.capacity word) word b c p.is
      (subst (λ n. IsCutBlock k.capacity n (superblock_of k.capacity word) c) same q.is) p.from p.until q.from
      (subst (λ n. word < c + words_of_class n) same q.until)

  -- a seat that has the word in a block has such a block
  pub covered : (j : ℕ) (v : View) → j < length views → get_or views j v ≡ v → (word : ℕ) → 0 < in_blocks v word → (b : ℕ) × Covers v word b
  covered j v below_j at_j word some = let s = good.blocks j v below_j at_j in
      elim (cases_lt 0 (times_in_classes word 0 v.small)) [
        | inl in_small ↦ let h = some_in_classes word 0 v.small in_small in (
          h.b,
          covers j v below_j at_j (0 + h.n) word h.b (let t = in_lists_total h.b h.n v.small h.there in
              omega arith) (s.held h.n h.b h.there ∙ (let e : h.n ≡ 0 + h.n = omega arith in e)) h.within,
        )
        | inr not_small ↦ elim (cases_lt 0 (times_in_classes word 0 v.caches)) [
          | inl in_caches ↦ let h = some_in_classes word 0 v.caches in_caches in (
            h.b,
            covers j v below_j at_j (0 + h.n) word h.b (let t = in_lists_total h.b h.n v.caches h.there in
                omega arith) (s.cached h.n h.b h.there ∙ (let e : h.n ≡ 0 + h.n = omega arith in e)) h.within,
          )
          | inr not_cached ↦ let h = some_within (words_of_class v.batch.class) word v.batch.blocks (omega arith) in (
            h.b,
            covers j v below_j at_j v.batch.class word h.b (let t = h.there in omega arith) (let q = s.batched h.b h.there in
                ap (info m) q.0 ∙ q.1) h.within,
          )
        ]
      ]

  -- as often as it has that block
  pub covered_most : (j : ℕ) (v : View) → j < length views → get_or views j v ≡ v → (u : View) (word b : ℕ) → Covers u word b
      → in_blocks v word ≤ times_block b v
  covered_most j v below_j at_j u word b c = let s = good.blocks j v below_j at_j in
      let small = in_classes_most word b 0 v.small (λ n x some within. covers_one v u word x b
      (covers j v below_j at_j (0 + n) word x (let t = in_lists_total x n v.small some in
      omega arith) (s.held n x some ∙ (let e : n ≡ 0 + n = omega arith in e)) within) c) in
      let caches = in_classes_most word b 0 v.caches (λ n x some within. covers_one v u word x b
      (covers j v below_j at_j (0 + n) word x (let t = in_lists_total x n v.caches some in
      omega arith) (s.cached n x some ∙ (let e : n ≡ 0 + n = omega arith in e)) within) c) in
      let batch = within_most (words_of_class v.batch.class) word b v.batch.blocks (λ x some within. covers_one v u word x b
      (covers j v below_j at_j v.batch.class word x (omega arith) (let q = s.batched x some in ap (info m) q.0 ∙ q.1) within) c) in omega arith

  by_raw : (i j : ℕ) (v u : View) → j ≢ i → i < length views → get_or views i v ≡ v → j < length views → get_or views j u ≡ u → (d : ℕ)
      → 0 < times_raw d v → times_raw d u ≡ 0
  by_raw i j v u other below_i at_i below_j at_j d own =
      let two = total_two (times_raw d) views i j v u other below_i at_i below_j at_j in
      let p = good.shaped.placed.one_place d in let most = one_at_most (nat_lt d (used m)) in omega arith

  -- a word of a superblock: of one that is a seat's own, or of a block
  abbrev whole : View → ℕ → ℕ
  whole v d = times_large d v.large + times_raw d v

  by_word : (i j : ℕ) (v u : View) → j ≢ i → i < length views → get_or views i v ≡ v → j < length views → get_or views j u ≡ u → (word : ℕ)
      → 0 < times_own v (data_cell word) → times_own u (data_cell word) ≡ 0
  by_word i j v u other below_i at_i below_j at_j word own =
      let cap_v : v.setup.capacity ≡ k.capacity = ap (λ (s : Setup). s.capacity) (good.set_up i v below_i at_i).setup in
      let cap_u : u.setup.capacity ≡ k.capacity = ap (λ (s : Setup). s.capacity) (good.set_up j u below_j at_j).setup in
      let whole_v = ap (λ c. whole v (superblock_of c word)) cap_v in
      let whole_u = ap (λ c. whole u (superblock_of c word)) cap_u in
      let d = superblock_of k.capacity word in
      let raw = total_two (times_raw d) views i j v u other below_i at_i below_j at_j in
      let large = total_two (λ (x : View). times_large d x.large) views i j v u other below_i at_i below_j at_j in
      let p = good.shaped.placed.one_place d in let most = one_at_most (nat_lt d (used m)) in
      elim (cases_lt 0 (in_blocks v word)) as (λ _. times_own u (data_cell word) ≡ 0) [
        | inl of_block ↦ let b = covered i v below_i at_i word of_block in let cut = b.1.cut in
            let u_most = covered_most j u below_j at_j v word b.0 b.1 in
            let blocks = total_two (times_block b.0) views i j v u other below_i at_i below_j at_j in
            let mine = b.1.owned in
            let one = good.shaped.chained.owned d b.0 cut (subst (λ c. IsCutBlock k.capacity c d b.0) (sym b.1.info_is) b.1.is) in omega arith
        | inr no_block ↦ elim (cases_lt 0 (in_blocks u word)) as (λ _. times_own u (data_cell word) ≡ 0) [
          | inl of_block ↦ absurd (let b = covered j u below_j at_j word of_block in let cut = b.1.cut in omega arith)
          | inr no_block_u ↦ omega arith
        ]
      ]

  -- two seats own no word together
  pub one_owner : (i j : ℕ) (v u : View) → j ≢ i → i < length views → get_or views i v ≡ v → j < length views → get_or views j u ≡ u
      → (cell : Cell) → IsOwn v cell → times_own u cell ≡ 0
  one_owner i j v u other below_i at_i below_j at_j used_cell own = refl
  one_owner i j v u other below_i at_i below_j at_j (head_cell list) own = refl
  one_owner i j v u other below_i at_i below_j at_j (info_cell d) own = by_raw i j v u other below_i at_i below_j at_j d own
  one_owner i j v u other below_i at_i below_j at_j (anchor_cell d) own = by_raw i j v u other below_i at_i below_j at_j d own
  one_owner i j v u other below_i at_i below_j at_j (link_cell d) own =
      let raw = total_two (times_raw d) views i j v u other below_i at_i below_j at_j in
      let classed = total_two (λ (x : View). times_classed d x.classed) views i j v u other below_i at_i below_j at_j in
      let p = good.shaped.placed.one_place d in let most = one_at_most (nat_lt d (used m)) in omega arith
  one_owner i j v u other below_i at_i below_j at_j (root_cell n) own =
      let two = total_two (λ (x : View). times n x.roots) views i j v u other below_i at_i below_j at_j in let most = good.adds.roots n in omega arith
  one_owner i j v u other below_i at_i below_j at_j (data_cell word) own = by_word i j v u other below_i at_i below_j at_j word own
  one_owner i j v u other below_i at_i below_j at_j no_cell own = refl
