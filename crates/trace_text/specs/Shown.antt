-- A key and a borrowed value, as what they are.
use Rattle.std.specs.Prelude.{ℕ, List}
use denote.Ref.{Bor}

-- a key with the value that is borrowed for it
abbrev pub shown : ℕ × Bor (List ℕ) → ℕ × List ℕ
shown entry = (entry.0, entry.1.now)
