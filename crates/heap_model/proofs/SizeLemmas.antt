-- Facts on the size classes, each by one test of all rows.
use Rattle.std.proofs.Common.{◌≡◌, ℕ, ◌+◌, ◌-◌, ◌*◌, ◌<◌, ◌≤◌, Bool, true, nat_le, nat_eq, refl, subst, arith}
use Rattle.std.proofs.lemmas.Bool.{agree_below, agree_below_at, leb-true, eqb-true}
use Rattle.heap_model.specs.Sizes.{IsClass, last_class, class_sizes, size_of, words_of_class, blocks_of}

-- a test that holds in the row of each class holds of each class
pub at_class : (test : ℕ → Bool) → agree_below (λ k. test (k + 1)) (λ _. true) last_class ≡ true → (class : ℕ) → IsClass class → test class ≡ true
at_class test rows class is =
    let below : class - 1 < last_class = omega arith in
    let same : class - 1 + 1 ≡ class = omega arith in
    subst (λ c. test c ≡ true) same (agree_below_at (λ k. test (k + 1)) (λ _. true) last_class (class - 1) rows below)

-- the blocks of a class fit into a superblock
pub blocks_fit : (class : ℕ) → IsClass class → blocks_of class * words_of_class class ≤ 8192
unfolding blocks_of words_of_class class_sizes
blocks_fit class is = leb-true (blocks_of class * words_of_class class) 8192
    (at_class (λ c. nat_le (blocks_of c * words_of_class c) 8192) refl class is)

-- a block has at least two words
pub two_words : (class : ℕ) → IsClass class → 2 ≤ words_of_class class
unfolding words_of_class class_sizes
two_words class is = leb-true 2 (words_of_class class) (at_class (λ c. nat_le 2 (words_of_class c)) refl class is)

-- and at most 1,792
pub few_words : (class : ℕ) → IsClass class → words_of_class class ≤ 1792
unfolding words_of_class class_sizes
few_words class is = leb-true (words_of_class class) 1792 (at_class (λ c. nat_le (words_of_class c) 1792) refl class is)

-- a superblock has at least four blocks
pub four_blocks : (class : ℕ) → IsClass class → 4 ≤ blocks_of class
unfolding blocks_of class_sizes
four_blocks class is = leb-true 4 (blocks_of class) (at_class (λ c. nat_le 4 (blocks_of c)) refl class is)

-- and at most 4,096
pub few_blocks : (class : ℕ) → IsClass class → blocks_of class ≤ 4096
unfolding blocks_of class_sizes
few_blocks class is = leb-true (blocks_of class) 4096 (at_class (λ c. nat_le (blocks_of c) 4096) refl class is)

-- a block's bytes are those of its words
pub size_of-words : (class : ℕ) → IsClass class → size_of class ≡ 8 * words_of_class class
unfolding size_of words_of_class class_sizes
size_of-words class is = eqb-true (size_of class) (8 * words_of_class class) (at_class (λ c. nat_eq (size_of c) (8 * words_of_class c)) refl class is)
