-- Worked examples by computation: the runs of a small cache, and one of them given back.
use Rattle.std.specs.Prelude.{◌≡◌, ℕ, ◌+◌, ◌*◌, ◌<◌, nat_eq, if◌then◌else◌, cond, List, [], ◌∷◌, Contains, slice_index, refl}
use Rattle.std.proofs.Common.{inl, inr, arith, ap, sym, ◌∙◌, ne_eqb}
use Rattle.std.proofs.lemmas.Bool.{cond-false}
use Rattle.std.proofs.lemmas.List.Elements.{All-nil, All-cons}
use Rattle.heap_model.specs.Geometry.{start_word}
use Rattle.heap_model.specs.Image.{Image}
use Rattle.heap_model.specs.Sizes.{blocks_of, words_of_class, class_sizes}
use Rattle.heap_model.specs.Words.{anchor_of, partial_state}
use Rattle.heap_model.proofs.MemberLemmas.{in_none, head_or_rest}
use Rattle.heap_shape.specs.Standing.{IsFirstOf}
use Rattle.block_heap.specs.BlockRuns.{BlockRun, IsRunOf, AreRunsOf, list_with, IsFullAt, at_anchor, at_last, GivesRun}

-- a cache of class 20 in a heap of two superblocks: two blocks of superblock 0, one of superblock 1, and one more of superblock 0
abbrev four_cached : List ℕ
four_cached = 1080 ∷ 2872 ∷ 9272 ∷ 4664 ∷ []

-- the first two are one run
abbrev two_blocks : BlockRun
two_blocks = record { superblock = 0; blocks = 1080 ∷ 2872 ∷ [] }

-- and each other is a run of its own
abbrev one_block : ℕ → ℕ → BlockRun
one_block d word = record { superblock = d; blocks = word ∷ [] }

two_firsts : (word : ℕ) → Contains (1080 ∷ 2872 ∷ []) word → IsFirstOf 2 20 0 word
unfolding blocks_of words_of_class class_sizes
two_firsts word has = elim (head_or_rest 1080 word (2872 ∷ []) has) as (λ _. IsFirstOf 2 20 0 word) [
  | inl same ↦ record { index = 0; below = omega arith; at = omega arith }
  | inr later ↦ elim (head_or_rest 2872 word [] later) as (λ _. IsFirstOf 2 20 0 word) [
    | inl same ↦ record { index = 1; below = omega arith; at = omega arith }
    | inr none ↦ absurd (in_none word none)
  ]
]

two_are : IsRunOf 2 20 two_blocks
two_are = record { within = omega arith; some = omega arith; firsts = two_firsts }

one_is : (d word index : ℕ) → d < 2 → index < 4 → word ≡ start_word 2 d + index * 1792 → IsRunOf 2 20 (one_block d word)
unfolding blocks_of words_of_class class_sizes
one_is d word index within below at = record {
  within = within;
  some = omega arith;
  firsts = λ w has. elim (head_or_rest word w [] has) as (λ _. IsFirstOf 2 20 d w) [
    | inl same ↦ record { index = index; below = below; at = omega arith }
    | inr none ↦ absurd (in_none w none)
  ];
}

-- they are three runs
three_runs : AreRunsOf 2 20 four_cached (two_blocks ∷ one_block 1 9272 ∷ one_block 0 4664 ∷ [])
three_runs = record {
  all = refl;
  each = All-cons (IsRunOf 2 20) two_blocks (one_block 1 9272 ∷ one_block 0 4664 ∷ []) two_are
      (All-cons (IsRunOf 2 20) (one_block 1 9272) (one_block 0 4664 ∷ []) (one_is 1 9272 0 (omega arith) (omega arith) (omega arith))
      (All-cons (IsRunOf 2 20) (one_block 0 4664) [] (one_is 0 4664 2 (omega arith) (omega arith) (omega arith)) (All-nil (IsRunOf 2 20))));
  longest = ((λ e. omega (arith, e)), ((λ e. omega (arith, e)), tt));
}

-- not one for each block, and not one for each superblock
not_one_by_one : AreRunsOf 2 20 four_cached (one_block 0 1080 ∷ one_block 0 2872 ∷ one_block 1 9272 ∷ one_block 0 4664 ∷ []) → ⊥
not_one_by_one runs = runs.longest.0 refl

not_by_superblock : AreRunsOf 2 20 four_cached (record { superblock = 0; blocks = 1080 ∷ 2872 ∷ 4664 ∷ [] } ∷ one_block 1 9272 ∷ []) → ⊥
not_by_superblock runs = let third = ap (λ words. slice_index words 2) runs.all in omega (arith, third)

-- superblock 0 has block 3 free; the first run comes in front of it, so that its second block leads there
abbrev other_words : Image
other_words word = if nat_eq word 1080 then 2872 else 0

-- those words, with these of the anchor and of the run's last block
abbrev with_last : ℕ → ℕ → Image
with_last anchor last word = if nat_eq word 1065 then anchor else if nat_eq word 2872 then last else other_words word

-- before the run was given back
abbrev one_free : Image
one_free = with_last (anchor_of partial_state 3 1) 9272

-- and after it
abbrev three_free : Image
three_free = with_last (anchor_of partial_state 0 3) 6456

elsewhere : (anchor last word : ℕ) → (word ≡ 1065 → ⊥) → (word ≡ 2872 → ⊥) → with_last anchor last word ≡ other_words word
elsewhere anchor last word not_anchor not_last =
    cond-false (nat_eq word 1065) anchor (cond (nat_eq word 2872) last (other_words word)) (ne_eqb word 1065 not_anchor)
    ∙ cond-false (nat_eq word 2872) last (other_words word) (ne_eqb word 2872 not_last)

not_full : IsFullAt one_free 0 → ⊥
not_full full = omega (arith, full)

in_front : GivesRun 2 20 two_blocks one_free three_free
unfolding blocks_of words_of_class class_sizes
in_front = record {
  free = 6456 ∷ [];
  were = record { walks = (refl, tt); count = refl };
  are = record { walks = (refl, (refl, (refl, tt))); count = refl };
  state = refl;
  listed = λ full. absurd (not_full full);
  others = λ word none.
      let not_anchor : word ≡ 1065 → ⊥ = λ at. none (at_anchor at) in
      let not_last : word ≡ 2872 → ⊥ = λ at. none (at_last (1080 ∷ []) (ap (λ w. 1080 ∷ w ∷ []) (sym at)) not_full) in
      elsewhere (anchor_of partial_state 0 3) 6456 word not_anchor not_last
      ∙ sym (elsewhere (anchor_of partial_state 3 1) 9272 word not_anchor not_last);
}

-- not behind it
not_behind : GivesRun 2 20 two_blocks one_free (with_last (anchor_of partial_state 3 3) 9272) → ⊥
unfolding blocks_of words_of_class class_sizes
not_behind gives = let first = gives.are.walks.0 in omega (arith, first)

-- a superblock that was full goes to the free list where all four of its blocks are given
all_or_some : (list_with 20 4 ≡ 0) × (list_with 20 3 ≡ 20)
unfolding blocks_of words_of_class class_sizes
all_or_some = (refl, refl)
