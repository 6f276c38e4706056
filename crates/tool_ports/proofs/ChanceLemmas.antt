-- What chances come to by rows of calls.
use Rattle.std.proofs.Common.{ℕ}
use Rattle.tool_ports.specs.Chances.{ComesFrom, unasked, by_chance, by_word}

-- some calls, and then some more
pub comes_then : {C One : Type 0} (chance_gives : C → ℕ → One → C → Type 0) (word_gives : C → ℕ → C → Type 0) (old mid new : C)
    → ComesFrom chance_gives word_gives old mid → ComesFrom chance_gives word_gives mid new → ComesFrom chance_gives word_gives old new
comes_then chance_gives word_gives old mid _ first unasked = first
comes_then chance_gives word_gives old mid new first (by_chance now _ worker chance more gives) =
    by_chance now new worker chance (comes_then chance_gives word_gives old mid now first more) gives
comes_then chance_gives word_gives old mid new first (by_word now _ word more gives) =
    by_word now new word (comes_then chance_gives word_gives old mid now first more) gives
