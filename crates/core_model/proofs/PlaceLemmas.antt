-- Cells and word indices tell each other.
use Rattle.std.proofs.Common.{◌≡◌, ◌≢◌, ℕ, zero, suc, ◌+◌, ◌-◌, ◌*◌, ◌/◌, ◌%◌, ◌<◌, ◌≤◌, inl, inr, ◌⊎◌, Bool, true, false, cond, ◌&&◌, nat_eq, nat_lt, nat_le, List, length, Option, None, Some, refl, ap, sym, subst, ◌∙◌, eqb-true, eq-eqb, ltb-true, lt-ltb, leb-true, le-leb, true≢false, arith}
use Rattle.std.proofs.lemmas.Bool.{cases_eq, cases_lt}
use Rattle.std.proofs.lemmas.List.{get_or-set_other}
use Rattle.std.proofs.lemmas.Grind.{get_or-set_at}
use Rattle.heap_model.specs.Geometry.{superblocks_end, image_words, start_word, lists, head_word}
use Rattle.core_model.specs.Cells.{Cell, used_cell, head_cell, info_cell, anchor_cell, link_cell, root_cell, data_cell, no_cell, is_cell, index_of, cell_at, header_cell, descriptor_cell}
use Rattle.core_model.specs.View.{known}
use Rattle.core_model.specs.Effects.{seen, learn}

pub and_both : (a b : Bool) → a && b ≡ true → (a ≡ true) × (b ≡ true)
and_both true true e = (refl, refl)
and_both true false e = absurd (cc)
and_both false b e = absurd (cc)

pub and_is : (a b : Bool) → a ≡ true → b ≡ true → a && b ≡ true
and_is true true e f = refl
and_is true false e f = f
and_is false b e f = e

pub pick : {A : Type 0} (test : Bool) (x y : A) → test ≡ true → cond test x y ≡ x
pick true x y e = refl
pick false x y e = absurd (cc)

pub skip : {A : Type 0} (test : Bool) (x y : A) → test ≡ false → cond test x y ≡ y
skip true x y e = absurd (cc)
skip false x y e = refl

pub not-lt : (a b : ℕ) → b ≤ a → nat_lt a b ≡ false
not-lt a b more = by_test (nat_lt a b) refl where
  by_test : (test : Bool) → nat_lt a b ≡ test → nat_lt a b ≡ false
  by_test true e = absurd (let less : a < b = ltb-true a b e in omega arith)
  by_test false e = e

pub not-eq : (a b : ℕ) → a ≢ b → nat_eq a b ≡ false
not-eq a b other = by_test (nat_eq a b) refl where
  by_test : (test : Bool) → nat_eq a b ≡ test → nat_eq a b ≡ false
  by_test true e = absurd (other (eqb-true a b e))
  by_test false e = e

-- the word of a descriptor
in_descriptor : (c d at : ℕ) → d < c → at < 3 → cell_at c (1064 + 8 * d + at) ≡ descriptor_cell d at
in_descriptor c d at less small =
    skip (nat_lt (1064 + 8 * d + at) 40) _ _ (not-lt (1064 + 8 * d + at) 40 (omega arith))
    ∙ skip (nat_lt (1064 + 8 * d + at) 1064) _ _ (not-lt (1064 + 8 * d + at) 1064 (omega arith))
    ∙ pick (nat_lt (1064 + 8 * d + at) (start_word c 0)) _ _ (lt-ltb (1064 + 8 * d + at) (start_word c 0) (omega arith))
    ∙ let line : (1064 + 8 * d + at - 1064) / 8 ≡ d = omega arith in
    let rest : (1064 + 8 * d + at - 1064) % 8 ≡ at = omega arith in
    ap (λ n. descriptor_cell n ((1064 + 8 * d + at - 1064) % 8)) line ∙ ap (descriptor_cell d) rest

-- the cell at a cell's word index is that cell
pub cell_at_index : (c : ℕ) (cell : Cell) → is_cell c cell ≡ true → cell_at c (index_of cell) ≡ cell
cell_at_index c used_cell is = refl
cell_at_index c (head_cell list) is =
    let less : list < lists = ltb-true list lists is in
    pick (nat_lt (16 + list) 40) _ _ (lt-ltb (16 + list) 40 (omega arith))
    ∙ skip (nat_eq (16 + list) 8) _ _ (not-eq (16 + list) 8 (λ e. omega (arith, e)))
    ∙ pick (nat_le 16 (16 + list) && nat_lt (16 + list) (head_word lists)) _ _
    (and_is (nat_le 16 (16 + list)) (nat_lt (16 + list) (head_word lists)) (le-leb 16 (16 + list) (omega arith))
    (lt-ltb (16 + list) (head_word lists) (omega arith)))
    ∙ ap head_cell (let e : 16 + list - 16 ≡ list = omega arith in e)
cell_at_index c (info_cell d) is = let less : d < c = ltb-true d c is in
    ap (cell_at c) (let e : 1064 + 8 * d ≡ 1064 + 8 * d + 0 = omega arith in e) ∙ in_descriptor c d 0 less (omega arith)
cell_at_index c (anchor_cell d) is = let less : d < c = ltb-true d c is in
    ap (cell_at c) (let e : 1065 + 8 * d ≡ 1064 + 8 * d + 1 = omega arith in e) ∙ in_descriptor c d 1 less (omega arith)
cell_at_index c (link_cell d) is = let less : d < c = ltb-true d c is in
    ap (cell_at c) (let e : 1066 + 8 * d ≡ 1064 + 8 * d + 2 = omega arith in e) ∙ in_descriptor c d 2 less (omega arith)
cell_at_index c (root_cell n) is =
    let less : n < 1024 = ltb-true n 1024 is in
    skip (nat_lt (40 + n) 40) _ _ (not-lt (40 + n) 40 (omega arith))
    ∙ pick (nat_lt (40 + n) 1064) _ _ (lt-ltb (40 + n) 1064 (omega arith))
    ∙ ap root_cell (let e : 40 + n - 40 ≡ n = omega arith in e)
cell_at_index c (data_cell word) is =
    let both = and_both (nat_le (start_word c 0) word) (nat_lt word (superblocks_end c)) is in
    let from : start_word c 0 ≤ word = leb-true (start_word c 0) word both.0 in
    skip (nat_lt word 40) _ _ (not-lt word 40 (omega arith))
    ∙ skip (nat_lt word 1064) _ _ (not-lt word 1064 (omega arith))
    ∙ skip (nat_lt word (start_word c 0)) _ _ (not-lt word (start_word c 0) from)
    ∙ pick (nat_lt word (superblocks_end c)) _ _ both.1
cell_at_index c no_cell is = absurd (cc)

-- a cell lies in the image
pub index_within : (c : ℕ) (cell : Cell) → is_cell c cell ≡ true → index_of cell < image_words c
index_within c used_cell is = omega arith
index_within c (head_cell list) is = let less : list < lists = ltb-true list lists is in omega arith
index_within c (info_cell d) is = let less : d < c = ltb-true d c is in omega arith
index_within c (anchor_cell d) is = let less : d < c = ltb-true d c is in omega arith
index_within c (link_cell d) is = let less : d < c = ltb-true d c is in omega arith
index_within c (root_cell n) is = let less : n < 1024 = ltb-true n 1024 is in omega arith
index_within c (data_cell word) is = let less = ltb-true word (superblocks_end c)
    (and_both (nat_le (start_word c 0) word) (nat_lt word (superblocks_end c)) is).1 in omega arith
index_within c no_cell is = absurd (cc)

-- the word index of the cell at a word index is that
pub index_at : (c word : ℕ) → is_cell c (cell_at c word) ≡ true → index_of (cell_at c word) ≡ word
index_at c word is = elim (cases_lt word 40) [
  | inl in_header ↦ via (header_cell word) (pick (nat_lt word 40) _ _ (lt-ltb word 40 in_header)) (in_the_header in_header)
  | inr past ↦ elim (cases_lt word 1064) [
    | inl root ↦ via (root_cell (word - 40)) (skip (nat_lt word 40) _ _ (not-lt word 40 (omega arith))
        ∙ pick (nat_lt word 1064) _ _ (lt-ltb word 1064 root)) (λ _. omega arith)
    | inr past_roots ↦ elim (cases_lt word (start_word c 0)) [
      | inl line ↦ via (descriptor_cell ((word - 1064) / 8) ((word - 1064) % 8))
          (skip (nat_lt word 40) _ _ (not-lt word 40 (omega arith)) ∙ skip (nat_lt word 1064) _ _ (not-lt word 1064 past_roots)
          ∙ pick (nat_lt word (start_word c 0)) _ _ (lt-ltb word (start_word c 0) line))
          (in_the_line past_roots)
      | inr past_lines ↦ elim (cases_lt word (superblocks_end c)) [
        | inl block ↦ via (data_cell word)
            (skip (nat_lt word 40) _ _ (not-lt word 40 (omega arith)) ∙ skip (nat_lt word 1064) _ _ (not-lt word 1064 past_roots)
            ∙ skip (nat_lt word (start_word c 0)) _ _ (not-lt word (start_word c 0) past_lines)
            ∙ pick (nat_lt word (superblocks_end c)) _ _ (lt-ltb word (superblocks_end c) block)) (λ _. refl)
        | inr beyond ↦ via no_cell
            (skip (nat_lt word 40) _ _ (not-lt word 40 (omega arith)) ∙ skip (nat_lt word 1064) _ _ (not-lt word 1064 past_roots)
            ∙ skip (nat_lt word (start_word c 0)) _ _ (not-lt word (start_word c 0) past_lines)
            ∙ skip (nat_lt word (superblocks_end c)) _ _ (not-lt word (superblocks_end c) beyond)) (λ e. absurd (true≢false (sym e)))
      ]
    ]
  ]
] where
  via : (cell : Cell) → cell_at c word ≡ cell → (is_cell c cell ≡ true → index_of cell ≡ word) → index_of (cell_at c word) ≡ word
  via cell same of = subst (λ x. is_cell c x ≡ true → index_of x ≡ word) (sym same) of is

  in_the_header : word < 40 → is_cell c (header_cell word) ≡ true → index_of (header_cell word) ≡ word
  in_the_header less e = elim (cases_eq word 8) [
    | inl eight ↦ subst (λ t. index_of (cond t used_cell (cond (nat_le 16 word && nat_lt word (head_word lists))
        (head_cell (word - 16)) no_cell)) ≡ word) (sym (eq-eqb word 8 eight)) (sym eight)
    | inr other ↦ subst (λ t. is_cell c (cond t used_cell (cond (nat_le 16 word && nat_lt word (head_word lists))
        (head_cell (word - 16)) no_cell)) ≡ true → index_of (cond t used_cell
        (cond (nat_le 16 word && nat_lt word (head_word lists)) (head_cell (word - 16)) no_cell)) ≡ word)
        (sym (not-eq word 8 other)) (by_test (nat_le 16 word && nat_lt word (head_word lists)) refl) e
  ] where
    by_test : (test : Bool) → nat_le 16 word && nat_lt word (head_word lists) ≡ test
        → is_cell c (cond test (head_cell (word - 16)) no_cell) ≡ true → index_of (cond test (head_cell (word - 16)) no_cell) ≡ word
    by_test true both f = let low : 16 ≤ word = leb-true 16 word (and_both (nat_le 16 word) (nat_lt word (head_word lists)) both).0 in omega arith
    by_test false both f = absurd (true≢false (sym f))

  in_the_line : 1064 ≤ word → is_cell c (descriptor_cell ((word - 1064) / 8) ((word - 1064) % 8)) ≡ true
      → index_of (descriptor_cell ((word - 1064) / 8) ((word - 1064) % 8)) ≡ word
  in_the_line past e = by_offset ((word - 1064) / 8) ((word - 1064) % 8) (omega arith) e where
    by_offset : (d at : ℕ) → word ≡ 1064 + 8 * d + at → is_cell c (descriptor_cell d at) ≡ true → index_of (descriptor_cell d at) ≡ word
    by_offset d zero same f = omega arith
    by_offset d (suc zero) same f = omega arith
    by_offset d (suc (suc zero)) same f = omega arith
    by_offset d (suc (suc (suc n))) same f = absurd (true≢false (sym f ∙ ap (is_cell c)
        (skip (nat_eq (suc (suc (suc n))) 0) _ _ (not-eq (suc (suc (suc n))) 0 (λ z. omega (arith, z)))
        ∙ skip (nat_eq (suc (suc (suc n))) 1) _ _ (not-eq (suc (suc (suc n))) 1 (λ z. omega (arith, z)))
        ∙ skip (nat_eq (suc (suc (suc n))) 2) _ _ (not-eq (suc (suc (suc n))) 2 (λ z. omega (arith, z))))))

-- what is known after one word was learned
pub known_after : (c : ℕ) (values : List (Option ℕ)) (word x : ℕ) (cell : Cell) (value : ℕ) → length values ≡ image_words c → is_cell c cell ≡ true
    → known (learn values word x) cell ≡ Some value → ((cell ≡ cell_at c word) × (value ≡ x)) ⊎ ((cell ≡ cell_at c word → ⊥)
    × (known values cell ≡ Some value))
known_after c values word x cell value long is knows = elim (cases_eq (index_of cell) word) as
    (λ _. ((cell ≡ cell_at c word) × (value ≡ x)) ⊎ ((cell ≡ cell_at c word → ⊥) × (known values cell ≡ Some value))) [
      | inl same ↦ inl (
        sym (cell_at_index c cell is) ∙ ap (cell_at c) same,
        ap seen (sym knows ∙ get_or-set_at values word (index_of cell) (Some x) None same (let w = index_within c cell is in omega arith)),
      )
      | inr other ↦ inr (
        λ same. other (ap index_of same ∙ index_at c word (subst (λ y. is_cell c y ≡ true) same is)),
        sym (get_or-set_other values word (index_of cell) (Some x) None other) ∙ knows,
      )
    ]

-- what stands at a word index is a cell of the image, or none
pub cell_there : (c word : ℕ) → (is_cell c (cell_at c word) ≡ true) ⊎ (cell_at c word ≡ no_cell)
cell_there c word = elim (cases_lt word 40) [
  | inl header ↦ via (header_cell word) (pick (nat_lt word 40) _ _ (lt-ltb word 40 header))
      (in_the_header (nat_eq word 8) (nat_le 16 word && nat_lt word (head_word lists)) refl)
  | inr past ↦ elim (cases_lt word 1064) [
    | inl root ↦ via (root_cell (word - 40)) (skip (nat_lt word 40) _ _ (not-lt word 40 (omega arith))
        ∙ pick (nat_lt word 1064) _ _ (lt-ltb word 1064 root)) (inl (lt-ltb (word - 40) 1024 (omega arith)))
    | inr past_roots ↦ elim (cases_lt word (start_word c 0)) [
      | inl line ↦ via (descriptor_cell ((word - 1064) / 8) ((word - 1064) % 8))
          (skip (nat_lt word 40) _ _ (not-lt word 40 (omega arith)) ∙ skip (nat_lt word 1064) _ _ (not-lt word 1064 past_roots)
          ∙ pick (nat_lt word (start_word c 0)) _ _ (lt-ltb word (start_word c 0) line))
          (in_the_line ((word - 1064) / 8) (nat_eq ((word - 1064) % 8) 0) (nat_eq ((word - 1064) % 8) 1) (nat_eq ((word - 1064) % 8) 2) (omega arith))
      | inr past_lines ↦ elim (cases_lt word (superblocks_end c)) [
        | inl block ↦ via (data_cell word)
            (skip (nat_lt word 40) _ _ (not-lt word 40 (omega arith)) ∙ skip (nat_lt word 1064) _ _ (not-lt word 1064 past_roots)
            ∙ skip (nat_lt word (start_word c 0)) _ _ (not-lt word (start_word c 0) past_lines)
            ∙ pick (nat_lt word (superblocks_end c)) _ _ (lt-ltb word (superblocks_end c) block))
            (inl (and_is (nat_le (start_word c 0) word) (nat_lt word (superblocks_end c)) (le-leb (start_word c 0) word past_lines)
            (lt-ltb word (superblocks_end c) block)))
        | inr beyond ↦ via no_cell
            (skip (nat_lt word 40) _ _ (not-lt word 40 (omega arith)) ∙ skip (nat_lt word 1064) _ _ (not-lt word 1064 past_roots)
            ∙ skip (nat_lt word (start_word c 0)) _ _ (not-lt word (start_word c 0) past_lines)
            ∙ skip (nat_lt word (superblocks_end c)) _ _ (not-lt word (superblocks_end c) beyond)) (inr refl)
      ]
    ]
  ]
] where
  via : (cell : Cell) → cell_at c word ≡ cell → (is_cell c cell ≡ true) ⊎ (cell ≡ no_cell)
      → (is_cell c (cell_at c word) ≡ true) ⊎ (cell_at c word ≡ no_cell)
  via cell same of = subst (λ x. (is_cell c x ≡ true) ⊎ (x ≡ no_cell)) (sym same) of

  in_the_header : (a b : Bool) → (nat_le 16 word && nat_lt word (head_word lists)) ≡ b
      → (is_cell c (cond a used_cell (cond b (head_cell (word - 16)) no_cell)) ≡ true) ⊎
      (cond a used_cell (cond b (head_cell (word - 16)) no_cell) ≡ no_cell)
  in_the_header true b e = inl refl
  in_the_header false true e = let both = and_both (nat_le 16 word) (nat_lt word (head_word lists)) e in
      inl (lt-ltb (word - 16) lists (let l : word < head_word lists = ltb-true word (head_word lists) both.1 in
      let h : 16 ≤ word = leb-true 16 word both.0 in omega arith))
  in_the_header false false e = inr refl

  in_the_line : (d : ℕ) (a b e : Bool) → d < c → (is_cell c (cond a (info_cell d) (cond b (anchor_cell d) (cond e (link_cell d) no_cell)))
      ≡ true) ⊎ (cond a (info_cell d) (cond b (anchor_cell d) (cond e (link_cell d) no_cell)) ≡ no_cell)
  in_the_line d true b e less = inl (lt-ltb d c less)
  in_the_line d false true e less = inl (lt-ltb d c less)
  in_the_line d false false true less = inl (lt-ltb d c less)
  in_the_line d false false false less = inr refl
