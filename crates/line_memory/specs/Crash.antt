-- What a crash may leave of a memory, and what its calls can't add to that.
use Rattle.std.specs.Prelude.{◌≡◌, ◌≢◌, ℕ, ◌⊎◌}
use Rattle.line_memory.specs.View.{View, word_count, volatile_at, durable_at}

-- x is one of the two values of the word
abbrev pub IsValueOf : View → ℕ → ℕ → Type 0
IsValueOf v word x = (x ≡ durable_at v word) ⊎ (x ≡ volatile_at v word)

-- each durable value is what it was, or what loads saw before
abbrev pub OnlyWritesBack : View → View → Type 0
OnlyWritesBack v w = (word : ℕ) → IsValueOf v word (durable_at w word)

-- no word gets a value that neither loads nor a crash could give before
pub record AddsNothing (v w : View) : Type 0 where
  pub volatile : w.volatile ≡ v.volatile
  pub durable : OnlyWritesBack v w

-- no word gets a new value, but that the one word may get this value
pub record MayLeaveStore (word value : ℕ) (v w : View) : Type 0 where
  pub words : word_count w ≡ word_count v
  pub others : (other : ℕ) → other ≢ word → volatile_at w other ≡ volatile_at v other
  pub others_durable : (other : ℕ) → other ≢ word → IsValueOf v other (durable_at w other)
  pub seen : (volatile_at w word ≡ value) ⊎ (volatile_at w word ≡ volatile_at v word)
  pub left : (durable_at w word ≡ value) ⊎ IsValueOf v word (durable_at w word)
