-- How a call changes the blocks that a seat of the core holds.
use Rattle.std.specs.Prelude.{◌≡◌, ◌≢◌, ◌<◌, ◌≤◌, ℕ, ◌*◌, ◌∷◌, Contains, set}
use Rattle.heap_model.specs.declared.block.Block.{Block}
use Rattle.heap_model.specs.Counting.{times, without}
use Rattle.heap_model.specs.Geometry.{start_word, superblock_words}
use Rattle.heap_model.specs.Sizes.{IsClass, words_of_class}
use Rattle.core_model.specs.Effects.{span_count, without_span}
use Rattle.core_model.specs.View.{View, of_class}
use Rattle.heap_seat.specs.View.{View as HeapView}

-- a block of the class is held besides
pub record HoldsBlock (class : ℕ) (b : Block) (v w : View) : Type 0 where
  pub is_class : IsClass class
  pub words : b.words ≡ words_of_class class
  pub setup : w.setup ≡ v.setup
  pub roots : w.roots ≡ v.roots
  pub small : w.small ≡ set v.small class (b.first_word ∷ of_class v.small class)
  pub large : w.large ≡ v.large

-- a block of n superblocks from d on is held besides
pub record HoldsSpan (d n : ℕ) (b : Block) (v w : View) : Type 0 where
  pub some : 1 ≤ n
  pub block : b ≡ record { first_word = start_word v.setup.capacity d; words = superblock_words * n }
  pub setup : w.setup ≡ v.setup
  pub roots : w.roots ≡ v.roots
  pub small : w.small ≡ v.small
  pub large : w.large ≡ record { first = d; count = n } ∷ v.large

-- a block of the class is held no more
pub record GivesBlock (class : ℕ) (b : Block) (v w : View) : Type 0 where
  pub is_class : IsClass class
  pub words : b.words ≡ words_of_class class
  pub there : 0 < times b.first_word (of_class v.small class)
  pub setup : w.setup ≡ v.setup
  pub roots : w.roots ≡ v.roots
  pub small : w.small ≡ set v.small class (without b.first_word (of_class v.small class))
  pub large : w.large ≡ v.large

-- the block that begins in superblock d is held no more
pub record GivesSpan (d : ℕ) (b : Block) (v w : View) : Type 0 where
  pub there : 1 ≤ span_count d v.large
  pub block : b ≡ record { first_word = start_word v.setup.capacity d; words = superblock_words * span_count d v.large }
  pub setup : w.setup ≡ v.setup
  pub roots : w.roots ≡ v.roots
  pub small : w.small ≡ v.small
  pub large : w.large ≡ without_span d v.large

-- the block is held no more, and all others are
pub record Loses (b : Block) (v w : HeapView) : Type 0 where
  pub gone : Contains w.held b → ⊥
  pub only : (a : Block) → Contains w.held a → Contains v.held a
  pub keeps : (a : Block) → Contains v.held a → a ≢ b → Contains w.held a
