-- Worked examples: which block of a superblock has which index.
use Rattle.std.specs.Prelude.{◌≡◌, ℕ, [], ◌∷◌, slice_index, refl}
use Rattle.std.proofs.Common.{arith}
use Rattle.heap_model.specs.declared.block.Block.{Block}
use Rattle.heap_model.specs.Sizes.{class_sizes, words_of_class, blocks_of}
use Rattle.heap_model.specs.Words.{large_info}
use Rattle.heap_model.specs.Blocks.{Layout, Begins, of_class, as_large}
use Rattle.super_block.specs.Index.{HasIndex}

-- Of four superblocks three have been taken: superblock 0 is of class 2 (4 words a block), and 1 and 2 are one large block.
abbrev three_taken : Layout
three_taken = record { capacity = 4; used = 3; info = λ d. slice_index (2 ∷ large_info 2 ∷ 0 ∷ []) d }

-- the last of the 2,048 blocks of superblock 0 ends where superblock 1 starts, at word 9,288
last_small : HasIndex three_taken 0 2047 (record { first_word = 9284; words = 4 })
unfolding words_of_class blocks_of class_sizes
last_small = record {
  words = 4;
  count = 2048;
  is_of = record {
    taken = omega arith;
    begins = of_class 2 refl (record { some = omega arith; last = omega arith });
    below = omega arith;
    at = refl;
    size = refl;
  };
}

-- the large block has index 0 in its first superblock
large : HasIndex three_taken 1 0 (record { first_word = 9288; words = 16384 })
large = record {
  words = 16384;
  count = 1;
  is_of = record {
    taken = omega arith;
    begins = as_large 2 (omega arith) refl (omega arith) (λ i low high. let second : i ≡ 2 = omega arith in rw second refl);
    below = omega arith;
    at = refl;
    size = refl;
  };
}

-- and no block has index 1 there
one_large : (words count : ℕ) → Begins three_taken 1 words count → count ≡ 1
one_large words count (of_class c e is) = absurd (omega (arith, e, is.last))
one_large words count (as_large n some e end zeros) = refl

no_second : (b : Block) → HasIndex three_taken 1 1 b → ⊥
no_second b is = let one = one_large is.words is.count is.is_of.begins in omega (arith, is.is_of.below)

-- nor index 0 in a superblock that has not been taken
not_taken : (b : Block) → HasIndex three_taken 3 0 b → ⊥
not_taken b is = omega (arith, is.is_of.taken)

-- and no block begins in the second superblock of a large one
nothing_begins : (words count : ℕ) → Begins three_taken 2 words count → ⊥
nothing_begins words count (of_class c e is) = omega (arith, e, is.some)
nothing_begins words count (as_large n some e end zeros) = omega (arith, e)

none_inside : (b : Block) → HasIndex three_taken 2 0 b → ⊥
none_inside b is = nothing_begins is.words is.count is.is_of.begins
