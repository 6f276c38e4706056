-- Worked examples by computation: the words of an allocator, and a small drain.
use Rattle.std.specs.Prelude.{◌≡◌, ◌+◌, ◌*◌, ◌<◌, ◌≤◌, ℕ, zero, suc, List, [], ◌∷◌, ◌++◌, reverse, Contains, slice_index_or, refl}
use Rattle.std.proofs.Common.{arith, ap, subst, sym, ◌∙◌}
use Rattle.heap_model.specs.declared.block.Block.{Block}
use Rattle.heap_model.specs.Geometry.{start_word, info_word, root_word, used_word}
use Rattle.heap_model.specs.Blocks.{Layout}
use Rattle.heap_model.specs.Recovered.{IsDrained, beside, freed, fresh}
use Rattle.heap_model.specs.Sizes.{words_of_class, blocks_of, class_sizes}
use Rattle.block_heap.specs.Parts.{image_of}
use Rattle.block_heap.specs.Requests.{Drains}
use Rattle.block_heap.specs.SeqState.{SeqState}
use Rattle.block_heap.specs.AllocatorWords.{IsAllocatorWord, is_used, is_head, is_info, is_anchor, is_link, is_inside}

-- superblocks 3 and 5 of a class have nothing in use, and superblock 7 is free: 3 and then 5 go to the free list, so 5 is cut, and 3 and 7 stay
abbrev three_then_five : List ℕ
three_then_five = 3 ∷ 5 ∷ []

-- the free list as it was
abbrev seven : List ℕ
seven = 7 ∷ []

three_and_five : reverse three_then_five ++ seven ≡ 5 ∷ 3 ∷ 7 ∷ []
three_and_five = refl

-- block 1 of class 3, of 6 words, in superblock 0 of a heap of one: the border of a line is behind its second word
abbrev small_block : Block
small_block = record { first_word = 1078; words = 6 }

-- while the block is held an allocator may store to `used`, to the anchor of its superblock and to the words beside it,
-- but not to a root, the info or a word of the block
abbrev one_held : List Block
one_held = small_block ∷ []

is_held : Contains one_held small_block
is_held = (0, omega arith, refl)

allocator_words : IsAllocatorWord 1 one_held used_word × IsAllocatorWord 1 one_held 1065 × IsAllocatorWord 1 one_held 1077
allocator_words = (
  is_used refl,
  is_anchor 0 (omega arith) refl,
  is_inside (omega arith) (omega arith) (λ b holds is_in.
      let only : holds.0 ≡ 0 = omega (arith, holds.1) in
      let at : slice_index_or one_held 0 b ≡ b = subst (λ k. slice_index_or one_held k b ≡ b) only holds.2 in
      let from : b.first_word ≤ 1077 = is_in.from in
      let first : 1078 ≡ b.first_word = ap (λ (x : Block). x.first_word) at in
      omega arith),
)

not_at_root : IsAllocatorWord 1 one_held (root_word 0) → ⊥
not_at_root (is_used e) = omega arith
not_at_root (is_head list few e) = omega arith
not_at_root (is_info d within none e) = omega arith
not_at_root (is_anchor d within e) = omega arith
not_at_root (is_link d within e) = omega arith
not_at_root (is_inside from until none) = omega arith

not_at_info : IsAllocatorWord 1 one_held (info_word 0) → ⊥
not_at_info (is_used e) = omega arith
not_at_info (is_head list few e) = omega arith
not_at_info (is_info d within none e) =
    none small_block is_held (record { begins = omega arith; ends = let first : d ≡ 0 = omega arith in omega arith })
not_at_info (is_anchor d within e) = omega arith
not_at_info (is_link d within e) = omega arith
not_at_info (is_inside from until none) = omega arith

not_in_block : IsAllocatorWord 1 one_held 1079 → ⊥
not_in_block (is_used e) = omega arith
not_in_block (is_head list few e) = omega arith
not_in_block (is_info d within none e) = omega arith
not_in_block (is_anchor d within e) = omega arith
not_in_block (is_link d within e) = omega arith
not_in_block (is_inside from until none) = none small_block is_held (record { from = omega arith; until = omega arith })

-- nor to the kind of a root, the first of which stands behind the last word of the superblock
not_at_kind : (word : ℕ) → 9264 ≤ word → IsAllocatorWord 1 one_held word → ⊥
not_at_kind word from (is_used e) = omega arith
not_at_kind word from (is_head list few e) = omega arith
not_at_kind word from (is_info d within none e) = omega arith
not_at_kind word from (is_anchor d within e) = omega arith
not_at_kind word from (is_link d within e) = omega arith
not_at_kind word from (is_inside above until none) = omega arith

at_last : IsAllocatorWord 1 one_held 9263
at_last = is_inside (omega arith) (omega arith) (λ b holds is_in.
    let only : holds.0 ≡ 0 = omega (arith, holds.1) in
    let at : slice_index_or one_held 0 b ≡ b = subst (λ k. slice_index_or one_held k b ≡ b) only holds.2 in
    let until : 9263 < b.first_word + b.words = is_in.until in
    let first : 1078 ≡ b.first_word = ap (λ (x : Block). x.first_word) at in
    let words : 6 ≡ b.words = ap (λ (x : Block). x.words) at in
    omega arith)

-- a heap of one superblock that was never taken gives the four blocks of class 20
abbrev four_offsets : List ℕ
four_offsets = 8576 ∷ 22912 ∷ 37248 ∷ 51584 ∷ []

offset_at : (k d : ℕ) → k < 4 → slice_index_or four_offsets k d ≡ 8576 + 14336 * k
offset_at zero d below = refl
offset_at (suc zero) d below = refl
offset_at (suc (suc zero)) d below = refl
offset_at (suc (suc (suc zero))) d below = refl
offset_at (suc (suc (suc (suc k)))) d below = absurd (omega arith)

-- the first three of them
abbrev three_offsets : List ℕ
three_offsets = 8576 ∷ 22912 ∷ 37248 ∷ []

not_among_three : (k : ℕ) → k < 3 → slice_index_or three_offsets k 51584 ≡ 51584 → ⊥
not_among_three zero below is = omega arith
not_among_three (suc zero) below is = omega arith
not_among_three (suc (suc zero)) below is = omega arith
not_among_three (suc (suc (suc k))) below is = omega arith

module _ (s : SeqState) (one : s.parts.capacity ≡ 1) (untaken : image_of s.parts used_word ≡ 0) where
  given_is : (l : Layout) (kept : Block → Type 0) (b : Block) → l.capacity ≡ 1 → l.used ≡ 0 → IsDrained l kept 20 b
      → (k : ℕ) × (k < 4) × (8 * b.first_word ≡ 8576 + 14336 * k)
  unfolding blocks_of words_of_class class_sizes
  given_is l kept _ single none (beside b d index is taken info of unkept not_free) = absurd (omega arith)
  given_is l kept _ single none (freed b d index is free of) = absurd (let taken = free.taken in omega arith)
  given_is l kept _ single none (fresh b d index is past within of) =
      let below : index < 4 = of.below in
      let at : b.first_word ≡ start_word l.capacity d + index * 1792 = of.at in
      (index, below, omega arith)

  drains_four : Drains 20 four_offsets s
  unfolding blocks_of words_of_class class_sizes
  drains_four = record {
    sound = λ offset p.
        let at : offset ≡ 8576 + 14336 * p.0 = sym p.2 ∙ offset_at p.0 offset p.1 in (
          record { first_word = 1072 + 1792 * p.0; words = 1792 },
          omega arith,
          fresh _ 0 p.0 (record { some = omega arith; last = omega arith }) (omega arith) (omega arith)
              (record { below = p.1; at = omega arith; size = refl }),
        );
    complete = λ b of.
        let found = given_is _ _ b one untaken of in
        (found.0, found.1, offset_at found.0 (8 * b.first_word) found.1 ∙ sym found.2);
    once = λ i j d less within same.
        let at_i = offset_at i d (omega arith) in
        let at_j = offset_at j d within in
        omega arith;
  }

  -- three offsets are not all
  three_are_few : Drains 20 three_offsets s → ⊥
  unfolding blocks_of words_of_class class_sizes
  three_are_few drains =
      let fourth : Block = record { first_word = 6448; words = 1792 } in
      let has : Contains three_offsets 51584 = drains.complete fourth
      (fresh fourth 0 3 (record { some = omega arith; last = omega arith }) (omega arith) (omega arith)
      (record { below = omega arith; at = omega arith; size = refl })) in
      not_among_three has.0 has.1 has.2
