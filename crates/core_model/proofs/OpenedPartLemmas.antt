-- What a heap at rest has when it is opened: its words, and the parts of its seats.
use Rattle.std.proofs.Common.{◌≡◌, ℕ, ◌+◌, ◌*◌, ◌/◌, ◌<◌, ◌≤◌, inl, inr, ◌⊎◌, true, false, nat_lt, nat_le, List, [], ◌∷◌, ◌++◌, Contains, get_or, length, slice_index, refl, ap, sym, ◌∙◌, lt-ltb, ltb-true, le-leb, leb-true, true≢false, get_or-append-add, arith}
use Rattle.std.proofs.lemmas.Bool.{cases_lt}
use Rattle.std.proofs.lemmas.List.{get_or_append_left}
use Rattle.heap_model.specs.declared.block.Block.{Block}
use Rattle.heap_model.specs.Geometry.{lists, info_word, anchor_word, start_word, superblock_words, superblocks_end, image_words, superblock_of}
use Rattle.heap_model.specs.Sizes.{IsClass, words_of_class}
use Rattle.heap_model.specs.Words.{large_info}
use Rattle.heap_model.specs.Counting.{times, total, one_if}
use Rattle.heap_model.specs.Blocks.{layout_of}
use Rattle.heap_model.specs.Rest.{large_part, IsReady}
use Rattle.heap_model.proofs.SizeLemmas.{few_words}
use Rattle.heap_model.proofs.CountingLemmas.{one_if_true, one_if_false}
use Rattle.core_model.specs.Cells.{Cell, used_cell, info_cell, anchor_cell, data_cell, is_cell, index_of}
use Rattle.core_model.specs.Memory.{Memory, memory_of, used, info, anchor, next}
use Rattle.core_model.specs.View as seen_as
use Rattle.core_model.specs.View.{Setup, View, times_raw, times_classed, times_large, times_block}
use Rattle.core_model.specs.Effects.{steps}
use Rattle.core_model.specs.Sound.{IsCutBlock}
use Rattle.core_model.specs.Opening.{picked, tabulate, is_small, small_blocks, AreOwners, setup_of, opened_view}
use Rattle.core_model.proofs.PlaceLemmas.{pick, index_within, and_both, and_is, not-lt}
use Rattle.core_model.proofs.BlockLemmas.{superblock_is}
use Rattle.core_model.proofs.OpenLemmas.{picked_sum, picked_in, tabulate_sum, total_in, total_zero, small_at, small_sum, large_sum}
use Rattle.core_model.proofs.OpenCountLemmas.{begins_cases}

module _ (words : List ℕ) (held : List Block) (budget seats : ℕ) (block_owners root_owners : List ℕ) (ready : IsReady words held)
    (owners : AreOwners held seats block_owners root_owners) where
  abbrev pub k : Setup
  k = setup_of words budget seats

  abbrev pub c : ℕ
  c = slice_index words 2

  abbrev pub image : ℕ → ℕ
  image = slice_index words

  abbrev pub table : List ℕ
  table = words ++ (words ++ (0 ∷ []))

  abbrev pub m : Memory
  m = memory_of c table

  abbrev pub V : ℕ → View
  V = opened_view k held block_owners root_owners

  abbrev pub views : List View
  views = tabulate V 0 seats

  pub long : length words ≡ image_words c
  long = let f = ready.formed.length_is in omega arith

  pub volatile_is : (cell : Cell) → is_cell c cell ≡ true → m.volatile cell ≡ image (index_of cell)
  volatile_is cell is = pick (is_cell c cell) _ _ is ∙ get_or_append_left words (words ++ (0 ∷ [])) 0 (index_of cell)
      (let w = index_within c cell is in let l = long in omega arith)

  pub durable_is : (cell : Cell) → is_cell c cell ≡ true → m.durable cell ≡ image (index_of cell)
  durable_is cell is = pick (is_cell c cell) _ _ is ∙ ap (λ n. get_or table (n + index_of cell) 0) (sym long)
      ∙ get_or-append-add words (words ++ (0 ∷ [])) (index_of cell) 0
      ∙ get_or_append_left words (0 ∷ []) 0 (index_of cell) (let w = index_within c cell is in let l = long in omega arith)

  pub none_drawn_yet : m.drawn ≡ 0
  none_drawn_yet = ap (λ n. get_or table n 0) (let l = long in let e : 2 * image_words c ≡ length words + (length words + 0) = omega arith in e)
      ∙ get_or-append-add words (words ++ (0 ∷ [])) (length words + 0) 0 ∙ get_or-append-add words (0 ∷ []) 0 0

  pub used_is : used m ≡ image 8
  used_is = volatile_is used_cell refl

  pub info_is : (d : ℕ) → d < c → info m d ≡ image (info_word d)
  info_is d less = volatile_is (info_cell d) (lt-ltb d c less)

  pub anchor_is : (d : ℕ) → d < c → anchor m d ≡ image (anchor_word d)
  anchor_is d less = volatile_is (anchor_cell d) (lt-ltb d c less)

  pub next_is : (word : ℕ) → start_word c 0 ≤ word → word < superblocks_end c → next m word ≡ image word
  next_is word low high = volatile_is (data_cell word) (and_is (nat_le (start_word c 0) word) (nat_lt word (superblocks_end c))
      (le-leb (start_word c 0) word low) (lt-ltb word (superblocks_end c) high))

  -- held blocks
  pub record IsSmall (p : Block) : Type 0 where
    pub class : ℕ
    pub d : ℕ
    pub info_at : image (info_word d) ≡ class
    pub is_class : IsClass class
    pub taken : d < image 8
    pub is : IsCutBlock c class d p.first_word
    pub size : p.words ≡ words_of_class class
    pub small : is_small p ≡ true
    pub here : superblock_of c p.first_word ≡ d

  pub record IsLarge (p : Block) : Type 0 where
    pub count : ℕ
    pub d : ℕ
    pub some : 1 ≤ count
    pub info_at : image (info_word d) ≡ large_info count
    pub fits : d + count ≤ image 8
    pub others : (e : ℕ) → d < e → e < d + count → image (info_word e) ≡ 0
    pub first : p.first_word ≡ start_word c d
    pub size : p.words ≡ superblock_words * count
    pub large : is_small p ≡ false
    pub here : superblock_of c p.first_word ≡ d

  pub held_cases : (p : Block) → Contains held p → IsSmall p ⊎ IsLarge p
  held_cases p there = let b = ready.blocks p there in let o = b.is_of in elim (begins_cases (layout_of image) b.superblock b.words b.count o.begins) [
    | inl s ↦ let cut : IsCutBlock c s.0 b.superblock p.first_word = record {
      index = b.index;
      below = (let e = o.below in let f = s.4 in omega arith);
      at = o.at ∙ ap (λ n. start_word c b.superblock + b.index * n) s.3;
    } in
        inl (record {
          class = s.0;
          d = b.superblock;
          info_at = s.1;
          is_class = s.2;
          taken = o.taken;
          is = cut;
          size = o.size ∙ s.3;
          small = lt-ltb p.words superblock_words (let f = few_words s.0 s.2 in let e = o.size in let g = s.3 in omega arith);
          here = superblock_is c s.0 b.superblock p.first_word s.2 cut;
        })
    | inr l ↦ let first : p.first_word ≡ start_word c b.superblock = (let e = o.at in
        let z : b.index ≡ 0 = (let y = o.below in let f = l.6 in omega arith) in let q = ap (λ n. start_word c b.superblock + n * b.words) z in
        let r : start_word c b.superblock + 0 * b.words ≡ start_word c b.superblock = omega arith in e ∙ q ∙ r) in
        inr (record {
          count = l.0;
          d = b.superblock;
          some = l.1;
          info_at = l.2;
          fits = l.3;
          others = l.4;
          first = first;
          size = o.size ∙ l.5;
          large = not-lt p.words superblock_words (let e = o.size in let g = l.5 in let s = l.1 in omega arith);
          here = ap (superblock_of c) first ∙ (let z : superblock_of c (start_word c b.superblock) ≡ b.superblock = omega arith in z);
        })
  ]

  pub in_used : (d : ℕ) → d < image 8 → d < c
  in_used d less = let u = ready.formed.used in omega arith

  -- which superblocks a large block takes
  pub part_takes : (d : ℕ) (p : Block) (l : IsLarge p) → one_if (seen_as.takes d
      (record { first = superblock_of c p.first_word; count = p.words / superblock_words })) ≡ large_part c d p
  part_takes d p l = elim (cases_lt d l.d) [
    | inl less ↦ none (λ low high. omega (arith, low, l.here, less)) (λ low high. omega (arith, l.first, low, less))
    | inr low ↦ elim (cases_lt d (l.d + l.count)) [
      | inl high ↦ one_if_true _ (and_is _ _ (le-leb (superblock_of c p.first_word) d (omega (arith, l.here, low)))
          (lt-ltb d (superblock_of c p.first_word + p.words / superblock_words) (omega (arith, l.here, l.size, high))))
          ∙ sym (one_if_true _ (and_is _ _ (le-leb superblock_words p.words (omega (arith, l.size, l.some)))
          (and_is _ _ (lt-ltb p.first_word (start_word c (d + 1)) (omega (arith, l.first, low)))
          (lt-ltb (start_word c d) (p.first_word + p.words) (omega (arith, l.first, l.size, high))))))
      | inr past ↦ none (λ a b. omega (arith, b, l.here, l.size, past)) (λ a b. omega (arith, b, l.first, l.size, past))
    ]
  ] where
    none : (superblock_of c p.first_word ≤ d → d < superblock_of c p.first_word + p.words / superblock_words → ⊥)
        → (p.first_word < start_word c (d + 1) → start_word c d < p.first_word + p.words → ⊥)
        → one_if (seen_as.takes d (record { first = superblock_of c p.first_word; count = p.words / superblock_words })) ≡ large_part c d p
    none out apart = one_if_false _ (λ t. let b = and_both _ _ t in
        out (leb-true (superblock_of c p.first_word) d b.0) (ltb-true d (superblock_of c p.first_word + p.words / superblock_words) b.1))
        ∙ sym (one_if_false _ (λ t. let b = and_both _ _ t in let e = and_both _ _ b.1 in
        apart (ltb-true p.first_word (start_word c (d + 1)) e.0) (ltb-true (start_word c d) (p.first_word + p.words) e.1)))

  pub small_part : (d : ℕ) (p : Block) → is_small p ≡ true → large_part c d p ≡ 0
  small_part d p small = one_if_false _ (λ t. let b = and_both _ _ t in
      let l : superblock_words ≤ p.words = leb-true superblock_words p.words b.0 in
      let s : p.words < superblock_words = ltb-true p.words superblock_words small in omega arith)

  pub large_of : (p : Block) → Contains held p → is_small p ≡ false → IsLarge p
  large_of p there large = elim (held_cases p there) [ inl s ↦ absurd (true≢false (sym s.small ∙ large)) | inr l ↦ l ]

  pub small_of : (p : Block) → Contains held p → is_small p ≡ true → IsSmall p
  small_of p there small = elim (held_cases p there) [ inl s ↦ s | inr l ↦ absurd (true≢false (sym small ∙ l.large)) ]

  -- the sums over the seats
  pub raw_none : (d : ℕ) → total (times_raw d) views ≡ 0
  raw_none d = tabulate_sum (times_raw d) V 0 seats ∙ total_zero (λ j. times_raw d (V j)) (steps 0 1 seats) (λ j. refl)

  pub classed_none : (d : ℕ) → total (λ (v : View). times_classed d v.classed) views ≡ 0
  classed_none d = tabulate_sum (λ (v : View). times_classed d v.classed) V 0 seats ∙ total_zero (λ j. 0) (steps 0 1 seats) (λ j. refl)

  pub large_is : (d : ℕ) → total (λ (v : View). times_large d v.large) views ≡ total (large_part c d) held
  large_is d = tabulate_sum (λ (v : View). times_large d v.large) V 0 seats
      ∙ total_in (λ j. times_large d (V j).large) (λ j. total (large_part c d) (picked j held block_owners)) (steps 0 1 seats)
      (λ j _. large_sum c d (picked j held block_owners) (λ p m large. part_takes d p (large_of p (picked_in j held block_owners p m) large))
      (λ p m small. small_part d p small))
      ∙ picked_sum (large_part c d) held block_owners seats owners.blocks owners.block_seats

  pub blocks_is : (b : ℕ) → total (times_block b) views ≡ total (small_at b) held
  blocks_is b = tabulate_sum (times_block b) V 0 seats
      ∙ total_in (λ j. times_block b (V j)) (λ j. total (small_at b) (picked j held block_owners)) (steps 0 1 seats)
      (λ j _. let s = tabulate_sum (times b) (λ class. small_blocks c (λ d. image (info_word d)) class (picked j held block_owners)) 0 lists in
      let t = small_sum c (λ d. image (info_word d)) b (picked j held block_owners)
      (λ p m small. let q = small_of p (picked_in j held block_owners p m) small in
      let e : image (info_word (superblock_of c p.first_word)) ≡ q.class = ap (λ d. image (info_word d)) q.here ∙ q.info_at in
      let l = q.is_class.last in omega arith) in omega arith)
      ∙ picked_sum (small_at b) held block_owners seats owners.blocks owners.block_seats
