-- What is recorded of words, and what steps leave of it.
use Rattle.std.specs.Prelude.{◌≡◌, ◌<◌, ◌⊎◌, ⊤, ℕ, get_or, Option, None, Some}
use Rattle.core_model.specs.Cells.{cell_at}
use Rattle.core_model.specs.View.{View}
pub use Rattle.core_model.specs.View.{times_held}

-- the value may be this one: it is, or it is not known
abbrev pub MayBe : Option ℕ → ℕ → Type 0
MayBe None value = ⊤
MayBe (Some known) value = value ≡ known

-- what the view has recorded that loads see of a word
abbrev pub seen_at : View → ℕ → Option ℕ
seen_at v word = get_or v.volatile word None

-- what it has recorded that a crash leaves of the word
abbrev pub left_at : View → ℕ → Option ℕ
left_at v word = get_or v.durable word None

-- the word is not stored to: what loads see stays, and what a crash leaves stays or is what loads saw
pub record KeepsWord (v w : View) (word : ℕ) : Type 0 where
  pub volatile : (value : ℕ) → seen_at v word ≡ Some value → seen_at w word ≡ Some value
  pub durable : (value : ℕ) → MayBe (left_at w word) value → MayBe (seen_at v word) value ⊎ MayBe (left_at v word) value

-- the word's value is recorded, and a crash leaves it
pub record IsDurableAt (v : View) (word : ℕ) : Type 0 where
  pub value : ℕ
  pub seen : seen_at v word ≡ Some value
  pub left : left_at v word ≡ Some value

-- the word is one of a held block, or an owned root
abbrev pub IsHeldWord : View → ℕ → Type 0
IsHeldWord v word = 0 < times_held v (cell_at v.setup.capacity word)
