-- The words that a closed memory leaves.
use Rattle.std.specs.Prelude.{List, ℕ}

-- what loads saw, and what a crash at that moment would have left
pub record ClosedWords : Type 0 where
  pub now : List ℕ
  pub kept : List ℕ

-- what loads saw
abbrev pub volatile_words : ClosedWords → List ℕ
volatile_words c = c.now

-- what a crash would have left
abbrev pub durable_words : ClosedWords → List ℕ
durable_words c = c.kept
