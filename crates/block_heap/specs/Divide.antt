-- How a superblock is divided into the blocks of a class.
use Rattle.std.specs.Prelude.{◌≡◌, ℕ, ◌+◌, ◌*◌, ◌<◌, ◌⊎◌}
use Rattle.heap_model.specs.Geometry.{start_word, info_word, anchor_word}
use Rattle.heap_model.specs.Sizes.{words_of_class, blocks_of}
use Rattle.heap_model.specs.Words.{full_anchor}
use Rattle.line_memory.specs.View.{View, volatile_at, durable_at}
use Rattle.block_heap.specs.Medium.{RunsWithin, StoresOnly}
use Rattle.heap_shape.specs.Effects.{IsInSuperblock}
use Rattle.block_heap.specs.Links.{IsOpen}
use Rattle.block_heap.specs.Draws.{most_cut_draws}

-- a word that dividing superblock d changes
abbrev pub IsDivideWord : ℕ → ℕ → ℕ → Type 0
IsDivideWord capacity d word = IsInSuperblock capacity d word ⊎ ((word ≡ info_word d) ⊎ (word ≡ anchor_word d))

-- each of the first `count` blocks of superblock d begins with the word index of the next, but the last of them
abbrev pub AreLinked : ℕ → ℕ → ℕ → ℕ → View → Type 0
AreLinked capacity class d count w = (k : ℕ) → k + 1 < count
    → volatile_at w (start_word capacity d + k * words_of_class class) ≡ start_word capacity d + (k + 1) * words_of_class class

-- the first word of one of the first `count` blocks of superblock d, but of the last of them
abbrev pub IsLinkedWord : ℕ → ℕ → ℕ → ℕ → ℕ → Type 0
IsLinkedWord capacity class d count word = (k : ℕ) × (k + 1 < count) × (word ≡ start_word capacity d + k * words_of_class class)

-- so many blocks of the superblock were chained, one step for each but the last, and every other word stays
pub record AreInOneChain (capacity class d count : ℕ) (v w : View) : Type 0 where
  pub open_still : IsOpen capacity w
  pub drawn : w.drawn + 1 ≡ v.drawn + count
  pub stores : StoresOnly (IsInSuperblock capacity d) v w
  pub linked : AreLinked capacity class d count w
  pub rest : (word : ℕ) → (IsLinkedWord capacity class d count word → ⊥) → volatile_at w word ≡ volatile_at v word

-- the superblock has the class, durably, and its blocks are in one chain that belongs to nobody; its other words stay
pub record IsDivided (capacity class d : ℕ) (v w : View) : Type 0 where
  pub runs_within : RunsWithin most_cut_draws v w
  pub info : volatile_at w (info_word d) ≡ class
  pub info_durable : durable_at w (info_word d) ≡ class
  pub anchor : volatile_at w (anchor_word d) ≡ full_anchor
  pub linked : AreLinked capacity class d (blocks_of class) w
  pub rest : (word : ℕ) → IsInSuperblock capacity d word → (IsLinkedWord capacity class d (blocks_of class) word → ⊥)
      → volatile_at w word ≡ volatile_at v word
