-- How long the blocks are that a superblock begins, and the marks that it has.
use Rattle.std.specs.Prelude.{◌≡◌, ℕ, ◌*◌, ◌/◌, ◌≤◌}
use Rattle.heap_model.specs.Geometry.{superblock_words, largest_capacity}
use Rattle.heap_model.specs.Sizes.{IsClass, words_of_class}
use Rattle.heap_model.specs.Words.{large_info}

-- the marks of a superblock: one for every two words
abbrev pub superblock_marks : ℕ
superblock_marks = superblock_words / 2

-- the words of the blocks of a superblock with this info
pub record IsBegun (info words : ℕ) : Type 0 where
  pub of_class : IsClass info → words ≡ words_of_class info
  pub as_large : (n : ℕ) → 1 ≤ n → n ≤ largest_capacity → info ≡ large_info n → words ≡ superblock_words * n
