-- Which words are a seat's own, by what the core keeps.
use Rattle.std.proofs.Common.{◌≡◌, ℕ, ◌+◌, ◌-◌, ◌*◌, ◌/◌, ◌<◌, ◌≤◌, ◌↔◌, inl, inr, Bool, true, false, nat_eq, List, get_or, length, refl, ap, sym, subst, ◌∙◌, arith}
use Rattle.std.proofs.Math.Nat.{div-mul-le_self, lt-div-mul-add}
use Rattle.std.proofs.lemmas.Bool.{cases_lt, cases_order}
use Rattle.heap_model.specs.Geometry.{roots, start_word, superblocks_end, superblock_of}
use Rattle.heap_model.specs.Sizes.{IsClass, words_of_class}
use Rattle.heap_model.specs.Counting.{times, total, one_if}
use Rattle.heap_model.proofs.BlockLemmas.{block_step}
use Rattle.heap_model.proofs.SizeLemmas.{two_words}
use Rattle.crash_core.specs.declared.owners.BlockPlace.{BlockPlace}
use Rattle.seat_state.specs.declared.notes.SeatNotes.{SeatNotes}
use Rattle.seat_state.specs.declared.superblocks.SuperblockUsage.{SuperblockUsage}
use Rattle.crash_core.specs.declared.state.CoreState.{CoreState}
use Rattle.core_model.specs.Cells.{Cell, info_cell, anchor_cell, link_cell, root_cell, data_cell, cell_at}
use Rattle.core_model.specs.Memory.{info, memory_of}
use Rattle.core_model.specs.View.{Setup, View, times_own, times_raw, times_large, times_block}
use Rattle.core_model.specs.Guards.{IsOwn}
use Rattle.core_model.specs.Sound.{Good, IsCutBlock}
use Rattle.seat_state.specs.Superblocks.{usage_for, no_superblock, raw_in, split_in, cutting_in, classed_in, large_in, IsUsage}
use Rattle.crash_core.specs.Standing.{IsSeatAt, place_for, no_block, held_in, cached_in, batched_in, IsPlace, IsKept, KeepsViews, memory_at}
use Rattle.core_model.proofs.OwnerLemmas.{in_blocks, covered, which_class}
use Rattle.crash_core.proofs.StandingLemmas.{memory_in, seat_capacity}
use Rattle.seat_state.proofs.WordLemmas.{entry_is}
use Rattle.seat_state.proofs.DecisionLemmas.{refused, one_true}
use Rattle.seat_state.proofs.BlockRanges.{within_word, in_classes_word}

module _ (c : CoreState) (k : Setup) (views : List View) (i : ℕ) (v : View) (t : SeatNotes) (keeps : KeepsViews c k views)
    (below : i < length views) (at : get_or views i v ≡ v)
    (at_t : IsSeatAt c i t) where
  kept : IsKept c i t v
  kept = keeps.each i t v below at_t at

  good : Good k (memory_in c k) views
  good = keeps.sound.good

  cap : v.setup.capacity ≡ k.capacity
  cap = ap (λ (s : Setup). s.capacity) (good.set_up i v below at).setup

  pub own_is : (word : ℕ) (cell : Cell) → cell_at c.geometry.capacity word ≡ cell → (b : Bool) → ((b ≡ true) ↔ (0 < times_own v cell))
      → (b ≡ true) ↔ IsOwn v (cell_at v.setup.capacity word)
  own_is word cell is b decides = subst (λ x. (b ≡ true) ↔ IsOwn v x)
      (sym (ap (λ n. cell_at n word) (seat_capacity c k views i v keeps below at) ∙ is)) decides

  pub own_shared : (word : ℕ) → ((u : View) → times_own u (cell_at c.geometry.capacity word) ≡ 0)
      → (false ≡ true) ↔ IsOwn v (cell_at v.setup.capacity word)
  own_shared word none = own_is word (cell_at c.geometry.capacity word) refl false (refused (λ some. let n = none v in omega arith))

  pub own_root : (word n owner : ℕ) → (cell_at c.geometry.capacity word ≡ root_cell n) × (n < roots) → owner ≡ get_or c.roots.items n owner
      → (nat_eq owner i ≡ true) ↔ IsOwn v (cell_at v.setup.capacity word)
  own_root word n owner part is = own_is word (root_cell n) part.0 (nat_eq owner i)
      (one_true (nat_eq owner i) (times n v.roots) (ap (λ x. one_if (nat_eq x i)) (is
      ∙ entry_is c.roots.items n owner (i + 1) (let l = keeps.roots in let less = part.1 in omega arith)) ∙ sym (kept.roots.is_owned n)))

  usage_is : (d : ℕ) → IsUsage d (usage_for i (get_or c.superblocks.items d no_superblock)) v.raw v.split v.cutting v.classed v.large
  usage_is d = kept.superblocks d

  pub own_info : (word d : ℕ) (x : SuperblockUsage) (b : Bool) → cell_at c.geometry.capacity word ≡ info_cell d
      → x ≡ usage_for i (get_or c.superblocks.items d no_superblock) → one_if b ≡ raw_in x + split_in x + cutting_in x
      → (b ≡ true) ↔ IsOwn v (cell_at v.setup.capacity word)
  own_info word d x b part x_is is = own_is word (info_cell d) part b (one_true b (times_raw d v)
      (let s = usage_is d in let p = s.is_raw in let q = s.is_split in let r = s.is_cutting in
      let e = ap (λ y. raw_in y + split_in y + cutting_in y) x_is in omega arith))

  pub own_anchor : (word d : ℕ) (x : SuperblockUsage) (b : Bool) → cell_at c.geometry.capacity word ≡ anchor_cell d
      → x ≡ usage_for i (get_or c.superblocks.items d no_superblock) → one_if b ≡ raw_in x + split_in x + cutting_in x
      → (b ≡ true) ↔ IsOwn v (cell_at v.setup.capacity word)
  own_anchor word d x b part x_is is = own_is word (anchor_cell d) part b (one_true b (times_raw d v)
      (let s = usage_is d in let p = s.is_raw in let q = s.is_split in let r = s.is_cutting in
      let e = ap (λ y. raw_in y + split_in y + cutting_in y) x_is in omega arith))

  pub own_link : (word d : ℕ) (x : SuperblockUsage) (b : Bool) → cell_at c.geometry.capacity word ≡ link_cell d
      → x ≡ usage_for i (get_or c.superblocks.items d no_superblock) → one_if b ≡ raw_in x + split_in x + cutting_in x + classed_in x
      → (b ≡ true) ↔ IsOwn v (cell_at v.setup.capacity word)
  own_link word d x b part x_is is = own_is word (link_cell d) part b (one_true b (times_own v (link_cell d))
      (let s = usage_is d in let p = s.is_raw in let q = s.is_split in let r = s.is_cutting in let o = s.is_classed in
      let e = ap (λ y. raw_in y + split_in y + cutting_in y + classed_in y) x_is in omega arith))

  module _ (word : ℕ) (from : start_word c.geometry.capacity 0 ≤ word) (until : word < superblocks_end c.geometry.capacity) (d : ℕ)
      (d_is : d ≡ superblock_of c.geometry.capacity word) (x : SuperblockUsage)
      (x_is : x ≡ usage_for i (get_or c.superblocks.items d no_superblock)) where
    d_v : superblock_of v.setup.capacity word ≡ d
    d_v = ap (λ n. superblock_of n word) (seat_capacity c k views i v keeps below at) ∙ sym d_is

    parts_of : times_large (superblock_of v.setup.capacity word) v.large + times_raw
        (superblock_of v.setup.capacity word) v ≡ raw_in x + split_in x + cutting_in x + large_in x
    parts_of = ap (λ n. times_large n v.large + times_raw n v) d_v
        ∙ (let s = usage_is d in let p = s.is_raw in let q = s.is_split in let r = s.is_cutting in let l = s.is_large in
        let e = ap (λ y. raw_in y + split_in y + cutting_in y + large_in y) x_is in omega arith)

    pub data_whole : 0 < raw_in x + split_in x + cutting_in x + large_in x → IsOwn v (data_cell word)
    data_whole some = let p = parts_of in omega arith

    module _ (none : raw_in x + split_in x + cutting_in x + large_in x ≡ 0) (class : ℕ) (class_is : class ≡ info (memory_at c) d) where
      info_now : info (memory_in c k) (superblock_of k.capacity word) ≡ class
      info_now = ap (info (memory_in c k)) (ap (λ n. superblock_of n word) keeps.capacity ∙ sym d_is)
          ∙ ap (λ n. info (memory_of n c.words.items) d) keeps.capacity ∙ sym class_is

      pub data_unclassed : (IsClass class → ⊥) → IsOwn v (data_cell word) → ⊥
      data_unclassed not own = let p = parts_of in let has = covered k (memory_in c k) views good i v below at word (omega arith) in
          not (subst IsClass info_now (good.shaped.chained.is_class (superblock_of k.capacity word) has.1.cut))

      module _ (is_class : IsClass class) (words block : ℕ) (words_are : words ≡ words_of_class class)
          (block_is : block ≡ start_word c.geometry.capacity d + (word - start_word c.geometry.capacity d) / words * words)
          (p : BlockPlace) (p_is : p ≡ place_for i (get_or c.blocks.items block no_block)) (b : Bool)
          (b_is : one_if b ≡ held_in p + cached_in p + batched_in p) where
        place_is : IsPlace block (place_for i (get_or c.blocks.items block no_block)) v.small v.caches v.batch.blocks
        place_is = kept.blocks block

        some_words : 0 < words
        some_words = let two = two_words class is_class in omega arith

        start : ℕ
        start = start_word c.geometry.capacity d

        low : start_word c.geometry.capacity d ≤ word
        low = omega arith

        high : word < start_word c.geometry.capacity d + 8192
        high = omega arith

        before_word : block ≤ word
        before_word = let l = div-mul-le_self (word - start_word c.geometry.capacity d) words in let a = low in omega arith

        after_word : word < block + words
        after_word = let l = lt-div-mul-add {a = word - start_word c.geometry.capacity d} {b = words} some_words in let a = low in omega arith

        block_in : superblock_of k.capacity block ≡ d
        block_in = let a = before_word in let h = high in let e = keeps.capacity in let z = d_is in
            (let y : start_word c.geometry.capacity d ≤ block = omega arith in omega arith)

        info_block : info (memory_in c k) (superblock_of v.setup.capacity block) ≡ class
        info_block = ap (λ n. info (memory_in c k) (superblock_of n block)) cap ∙ ap (info (memory_in c k)) block_in
            ∙ ap (λ n. info (memory_of n c.words.items) d) keeps.capacity ∙ sym class_is

        until_class : (n : ℕ) → n ≡ class → word < block + words_of_class n
        until_class n is = subst (λ y. word < block + y) (words_are ∙ ap words_of_class (sym is)) after_word

        has_block : 0 < times_block block v → 0 < in_blocks v word
        has_block some = elim (cases_lt 0 (total (times block) v.small)) [
          | inl small ↦ let h = which_class block v.small small in
              let s = good.blocks i v below at in
              let own = in_classes_word word block 0 h.n v.small before_word
              (until_class (0 + h.n) (let e = s.held h.n block h.there in let f = info_block in omega arith)) h.there in omega arith
          | inr not_small ↦ elim (cases_lt 0 (total (times block) v.caches)) [
            | inl cached ↦ let h = which_class block v.caches cached in
                let s = good.blocks i v below at in
                let own = in_classes_word word block 0 h.n v.caches before_word
                (until_class (0 + h.n) (let e = s.cached h.n block h.there in let f = info_block in omega arith)) h.there in omega arith
            | inr not_cached ↦ let s = good.blocks i v below at in let q = s.batched block (omega arith) in
                let own = within_word (words_of_class v.batch.class) word block v.batch.blocks (omega arith) before_word
                (until_class v.batch.class (sym q.1 ∙ ap (info (memory_in c k)) (sym q.0) ∙ info_block)) in omega arith
          ]
        ]

        counted : times_block block v ≡ held_in p + cached_in p + batched_in p
        counted = let s = place_is in let a = s.held in let e = s.cached in let f = s.batched in
            let g = ap (λ y. held_in y + cached_in y + batched_in y) p_is in omega arith

        at_block : (y : ℕ) → IsCutBlock k.capacity class (superblock_of k.capacity word) y → y ≤ word → word < y + words_of_class class → y ≡ block
        at_block y cut y_from y_until = unique cut.index (cut.at ∙ (let e = keeps.capacity in let z = d_is in
            let g : start_word k.capacity (superblock_of k.capacity word)
            + cut.index * words_of_class class ≡ start_word c.geometry.capacity d + cut.index * words_of_class class =
            ap (λ n. start_word n (superblock_of n word) + cut.index * words_of_class class) keeps.capacity
            ∙ ap (λ n. start_word c.geometry.capacity n + cut.index * words_of_class class) (sym d_is) in g)
            ∙ ap (λ n. start_word c.geometry.capacity d + cut.index * n) (sym words_are))
            y_from (subst (λ n. word < y + n) (sym words_are) y_until) where
              same_step : (s m n : ℕ) → y ≡ s + m * words → block ≡ s + n * words → y ≤ word → word < y + words → block ≤ word
                  → word < block + words → y ≡ block
              same_step s m n at_y at_block a e f g = elim (cases_order m n) as (λ _. y ≡ block) [
                | inl one ↦ at_y ∙ ap (λ z. s + z * words) one ∙ sym at_block
                | inr two ↦ elim two as (λ _. y ≡ block) [
                  | inl less ↦ absurd (let step = block_step m n words less in omega arith)
                  | inr more ↦ absurd (let step = block_step n m words more in omega arith)
                ]
              ]

              unique : (index : ℕ) → y ≡ start_word c.geometry.capacity d + index * words → y ≤ word → word < y + words → y ≡ block
              unique index at_y a e = same_step (start_word c.geometry.capacity d) index
                  ((word - start_word c.geometry.capacity d) / words) at_y block_is a e before_word after_word

        pub data_block : (b ≡ true) ↔ IsOwn v (data_cell word)
        data_block = (
          λ e. let h = has_block (let one = (one_true b (held_in p + cached_in p + batched_in p) b_is).0 e in let n = counted in omega arith) in
              omega arith,
          λ own. (one_true b (held_in p + cached_in p + batched_in p) b_is).1 (let z = parts_of in
              let has = covered k (memory_in c k) views good i v below at word (omega arith) in
              let same : has.1.class ≡ class = sym has.1.info_is ∙ info_now in
              let here : has.0 ≡ block = at_block has.0 (subst (λ n. IsCutBlock k.capacity n (superblock_of k.capacity word) has.0)
              same has.1.is) has.1.from (subst (λ n. word < has.0 + words_of_class n) same has.1.until) in
              let owned = subst (λ y. 0 < times_block y v) here has.1.owned in let n = counted in omega arith),
        )
