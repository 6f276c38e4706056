-- Marks as the bits of words, 64 each.
use Rattle.std.specs.Prelude.{ℕ, zero, suc, ◌+◌, ◌/◌, ◌%◌, Bool, nat_eq, List, [], ◌∷◌, get_or}
use Rattle.std.specs.Int.{bit_at}

-- whether a bit of a number is one
abbrev pub is_one : ℕ → ℕ → Bool
is_one word bit = nat_eq (bit_at word bit) 1

-- the mark of a number
abbrev pub mark_in : List ℕ → ℕ → Bool
mark_in words n = is_one (get_or words (n / 64) 0) (n % 64)

-- the marks of so many numbers from one on
abbrev pub marks_from : List ℕ → ℕ → ℕ → List Bool
marks_from words from zero = []
marks_from words from (suc n) = mark_in words from ∷ marks_from words (from + 1) n

-- the marks of all numbers below a length
abbrev pub marks_of : List ℕ → ℕ → List Bool
marks_of words length = marks_from words 0 length
