-- A step as a change of one word of the shared table.
use Rattle.std.proofs.Common.{◌≡◌, ◌≢◌, ℕ, ◌+◌, ◌*◌, ◌<◌, ◌≤◌, inl, inr, ◌⊎◌, Bool, true, false, cond, nat_lt, nat_le, List, get_or, set, length, refl, ap, sym, ◌∙◌, ltb-true, leb-true, true≢false, arith}
use Rattle.std.proofs.lemmas.List.{get_or-set_same, get_or-set_other}
use Rattle.std.proofs.lemmas.Grind.{get_or-set_at}
use Rattle.heap_model.specs.Geometry.{image_words, superblocks_end, start_word, IsFixed, in_header, in_descriptor, lists}
use Rattle.core_model.specs.Cells.{Cell, used_cell, head_cell, info_cell, anchor_cell, link_cell, root_cell, data_cell, no_cell, same_cell, is_cell, index_of, cell_at}
use Rattle.core_model.specs.Memory.{StepPlace, volatile_at, durable_at, tickets, write, with_cell, table_index, table_length, memory_of}
use Rattle.core_model.proofs.MemoryLemmas.{same-true, same-refl}
use Rattle.core_model.proofs.PlaceLemmas.{and_both, cell_at_index, index_within, pick, skip}
use Rattle.core_model.proofs.FrameLemmas.{with_other}
use Rattle.core_model.proofs.OwnStepLemmas.{with_same}

-- a cell is one of the image
abbrev pub is_place : ℕ → StepPlace → Bool
is_place c (volatile_at cell) = is_cell c cell
is_place c (durable_at cell) = is_cell c cell
is_place c tickets = true

-- two cells with one word index are one
pub index_one : (c : ℕ) (a b : Cell) → is_cell c a ≡ true → is_cell c b ≡ true → index_of a ≡ index_of b → a ≡ b
index_one c a b p q same = sym (cell_at_index c a p) ∙ ap (cell_at c) same ∙ cell_at_index c b q

cases_cell : (cell at : Cell) → (cell ≡ at) ⊎ (cell ≡ at → ⊥)
cases_cell cell at = by_test (same_cell cell at) refl where
  by_test : (test : Bool) → same_cell cell at ≡ test → (cell ≡ at) ⊎ (cell ≡ at → ⊥)
  by_test true e = inl (same-true cell at e)
  by_test false e = inr (λ same. true≢false (sym (same-refl at) ∙ ap (λ x. same_cell x at) (sym same) ∙ e))

-- words that begin at an offset, where one is written
reads : (c offset : ℕ) (words : List ℕ) (at : Cell) (x : ℕ) → is_cell c at ≡ true → offset + image_words c ≤ length words → (cell : Cell)
    → cond (is_cell c cell) (get_or (set words (offset + index_of at) x) (offset + index_of cell) 0) 0 ≡ with_cell
    (λ y. cond (is_cell c y) (get_or words (offset + index_of y) 0) 0) at x cell
reads c offset words at x is long cell = elim (cases_cell cell at) [
  | inl same ↦ pick (is_cell c cell) _ _ (ap (is_cell c) same ∙ is)
      ∙ get_or-set_at words (offset + index_of at) (offset + index_of cell) x 0 (ap (λ y. offset + index_of y) same)
      (let w = index_within c at is in omega arith)
      ∙ sym (with_same (λ y. cond (is_cell c y) (get_or words (offset + index_of y) 0) 0) at x cell same)
  | inr other ↦ by_cell (is_cell c cell) refl other ∙ sym (with_other
      (λ y. cond (is_cell c y) (get_or words (offset + index_of y) 0) 0) at x cell other)
] where
  by_cell : (test : Bool) → is_cell c cell ≡ test → (cell ≡ at → ⊥)
      → cond (is_cell c cell) (get_or (set words (offset + index_of at) x) (offset + index_of cell) 0) 0 ≡ cond (is_cell c cell)
      (get_or words (offset + index_of cell) 0) 0
  by_cell true e other = ap (λ n. cond (is_cell c cell) n 0) (get_or-set_other words (offset + index_of at) (offset + index_of cell) x 0
      (λ z. other (index_one c cell at e is (omega (arith, z)))))
  by_cell false e other = skip (is_cell c cell) _ _ e ∙ sym (skip (is_cell c cell) _ _ e)

-- words that are not written
unread : (c offset : ℕ) (words : List ℕ) (at x : ℕ) → ((cell : Cell) → is_cell c cell ≡ true → offset + index_of cell ≢ at) → (cell : Cell)
    → cond (is_cell c cell) (get_or (set words at x) (offset + index_of cell) 0) 0 ≡ cond (is_cell c cell) (get_or words (offset + index_of cell) 0) 0
unread c offset words at x apart cell = by_cell (is_cell c cell) refl where
  by_cell : (test : Bool) → is_cell c cell ≡ test → cond (is_cell c cell) (get_or (set words at x) (offset + index_of cell) 0) 0 ≡ cond
      (is_cell c cell) (get_or words (offset + index_of cell) 0) 0
  by_cell true e = ap (λ n. cond (is_cell c cell) n 0) (get_or-set_other words at (offset + index_of cell) x 0 (apart cell e))
  by_cell false e = skip (is_cell c cell) _ _ e ∙ sym (skip (is_cell c cell) _ _ e)

zero_plus : (n : ℕ) → 0 + n ≡ n
zero_plus n = omega arith

-- the memory of a table in which one place is written
pub memory_set : (c : ℕ) (words : List ℕ) (p : StepPlace) (x : ℕ) → length words ≡ table_length c → is_place c p ≡ true
    → memory_of c (set words (table_index c p) x) ≡ write (memory_of c words) p x
memory_set c words (volatile_at at) x long is = λ j. record {
  volatile = λ cell. (ap (λ n. cond (is_cell c cell) (get_or (set words n x) (index_of cell) 0) 0) (sym (zero_plus (index_of at)))
      ∙ ap (λ n. cond (is_cell c cell) (get_or (set words (0 + index_of at) x) n 0) 0) (sym (zero_plus (index_of cell)))
      ∙ reads c 0 words at x is (omega arith) cell
      ∙ ap (λ (f : Cell → ℕ). with_cell f at x cell) (λ i y. cond (is_cell c y) (get_or words (zero_plus (index_of y) i) 0) 0)) j;
  durable = λ cell. (unread c (image_words c) words (index_of at) x (λ y e z. let w = index_within c at is in omega (arith, z, w)) cell) j;
  drawn = (get_or-set_other words (index_of at) (2 * image_words c) x 0 (λ z. let w = index_within c at is in omega (arith, z, w))) j;
}
memory_set c words (durable_at at) x long is = λ j. record {
  volatile = λ cell. (ap (λ n. cond (is_cell c cell) (get_or (set words (image_words c + index_of at) x) n 0) 0) (sym (zero_plus (index_of cell)))
      ∙ unread c 0 words (image_words c + index_of at) x (λ y e z. let w = index_within c y e in omega (arith, z, w)) cell
      ∙ ap (λ n. cond (is_cell c cell) (get_or words n 0) 0) (zero_plus (index_of cell))) j;
  durable = λ cell. (reads c (image_words c) words at x is (omega arith) cell) j;
  drawn = (get_or-set_other words (image_words c + index_of at) (2 * image_words c) x 0 (λ z. let w = index_within c at is in omega (arith, z, w))) j;
}
memory_set c words tickets x long is = λ j. record {
  volatile = λ cell. (ap (λ n. cond (is_cell c cell) (get_or (set words (2 * image_words c) x) n 0) 0) (sym (zero_plus (index_of cell)))
      ∙ unread c 0 words (2 * image_words c) x (λ y e z. let w = index_within c y e in omega (arith, z, w)) cell
      ∙ ap (λ n. cond (is_cell c cell) (get_or words n 0) 0) (zero_plus (index_of cell))) j;
  durable = λ cell. (unread c (image_words c) words (2 * image_words c) x (λ y e z. let w = index_within c y e in omega (arith, z, w)) cell) j;
  drawn = (get_or-set_same words (2 * image_words c) x 0 (omega arith)) j;
}

-- a word that no step changes is no cell's
no_cell_at : (c word : ℕ) → IsFixed c word → (x : Cell) → is_cell c x ≡ true → index_of x ≢ word
no_cell_at c word (inl first) used_cell e z = omega (arith, z, first)
no_cell_at c word (inl first) (head_cell list) e z = omega (arith, z, first)
no_cell_at c word (inl first) (info_cell d) e z = omega (arith, z, first)
no_cell_at c word (inl first) (anchor_cell d) e z = omega (arith, z, first)
no_cell_at c word (inl first) (link_cell d) e z = omega (arith, z, first)
no_cell_at c word (inl first) (root_cell n) e z = omega (arith, z, first)
no_cell_at c word (inl first) (data_cell n) e z = let low : start_word c 0 ≤ n =
    leb-true (start_word c 0) n (and_both (nat_le (start_word c 0) n) (nat_lt n (superblocks_end c)) e).0 in omega (arith, z, first, low)
no_cell_at c word (inl first) no_cell e z = true≢false (sym e)
no_cell_at c word (inr (inl (in_header w past before_roots not_used around))) used_cell e z = not_used (sym z)
no_cell_at c word (inr (inl (in_header w past before_roots not_used around))) (head_cell list) e z = let less : list < lists =
    ltb-true list lists e in elim around as (λ _. ⊥) [ inl low ↦ omega (arith, z, less, low) | inr high ↦ omega (arith, z, less, high) ]
no_cell_at c word (inr (inl (in_header w past before_roots not_used around))) (info_cell d) e z = omega (arith, z, before_roots)
no_cell_at c word (inr (inl (in_header w past before_roots not_used around))) (anchor_cell d) e z = omega (arith, z, before_roots)
no_cell_at c word (inr (inl (in_header w past before_roots not_used around))) (link_cell d) e z = omega (arith, z, before_roots)
no_cell_at c word (inr (inl (in_header w past before_roots not_used around))) (root_cell n) e z = omega (arith, z, before_roots)
no_cell_at c word (inr (inl (in_header w past before_roots not_used around))) (data_cell n) e z = let low : start_word c 0 ≤ n =
    leb-true (start_word c 0) n (and_both (nat_le (start_word c 0) n) (nat_lt n (superblocks_end c)) e).0 in omega (arith, z, before_roots, low)
no_cell_at c word (inr (inl (in_header w past before_roots not_used around))) no_cell e z = true≢false (sym e)
no_cell_at c word (inr (inl (in_descriptor d at w less low high same))) used_cell e z = omega (arith, z, same)
no_cell_at c word (inr (inl (in_descriptor d at w less low high same))) (head_cell list) e z = let l : list < lists = ltb-true list lists e in
    omega (arith, z, same, l)
no_cell_at c word (inr (inl (in_descriptor d at w less low high same))) (info_cell f) e z = omega (arith, z, same, low, high)
no_cell_at c word (inr (inl (in_descriptor d at w less low high same))) (anchor_cell f) e z = omega (arith, z, same, low, high)
no_cell_at c word (inr (inl (in_descriptor d at w less low high same))) (link_cell f) e z = omega (arith, z, same, low, high)
no_cell_at c word (inr (inl (in_descriptor d at w less low high same))) (root_cell n) e z = let l : n < 1024 = ltb-true n 1024 e in
    omega (arith, z, same, l)
no_cell_at c word (inr (inl (in_descriptor d at w less low high same))) (data_cell n) e z = let l : start_word c 0 ≤ n =
    leb-true (start_word c 0) n (and_both (nat_le (start_word c 0) n) (nat_lt n (superblocks_end c)) e).0 in omega (arith, z, same, l, less, high)
no_cell_at c word (inr (inl (in_descriptor d at w less low high same))) no_cell e z = true≢false (sym e)
no_cell_at c word (inr (inr kind)) used_cell e z = let from = kind.from in omega (arith, z)
no_cell_at c word (inr (inr kind)) (head_cell list) e z = let from = kind.from in let less : list < lists = ltb-true list lists e in omega (arith, z)
no_cell_at c word (inr (inr kind)) (info_cell d) e z = let from = kind.from in let less : d < c = ltb-true d c e in omega (arith, z)
no_cell_at c word (inr (inr kind)) (anchor_cell d) e z = let from = kind.from in let less : d < c = ltb-true d c e in omega (arith, z)
no_cell_at c word (inr (inr kind)) (link_cell d) e z = let from = kind.from in let less : d < c = ltb-true d c e in omega (arith, z)
no_cell_at c word (inr (inr kind)) (root_cell n) e z = let from = kind.from in let less : n < 1024 = ltb-true n 1024 e in omega (arith, z)
no_cell_at c word (inr (inr kind)) (data_cell n) e z = let from = kind.from in
    let less : n < superblocks_end c = ltb-true n (superblocks_end c)
    (and_both (nat_le (start_word c 0) n) (nat_lt n (superblocks_end c)) e).1 in omega (arith, z)
no_cell_at c word (inr (inr kind)) no_cell e z = true≢false (sym e)

-- and it lies in the image
pub fixed_below : (c word : ℕ) → IsFixed c word → word < image_words c
fixed_below c word (inl first) = omega arith
fixed_below c word (inr (inl (in_header w past before_roots not_used around))) = omega arith
fixed_below c word (inr (inl (in_descriptor d at w less low high same))) = omega arith
fixed_below c word (inr (inr kind)) = let until = kind.until in omega arith

pub fixed_apart : (c word : ℕ) (cell : Cell) → IsFixed c word → is_cell c cell ≡ true → (index_of cell ≢ word) × (word < image_words c)
fixed_apart c word cell fixed is = (no_cell_at c word fixed cell is, fixed_below c word fixed)
