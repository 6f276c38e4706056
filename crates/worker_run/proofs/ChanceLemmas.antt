-- What is left of chances by the numbers that a crash takes of them.
use Rattle.std.proofs.Common.{◌≡◌, ℕ, List, [], ◌∷◌, ap, sym, subst, ◌∙◌}
use Rattle.crash_image.specs.Crash.{GivesAll}
use Rattle.tool_ports.specs.Chances.{ComesFrom, by_word}

-- something that has chances, under a name, and gives their words
module _ {S C One N : Type 0} (chances : S → C) (name : S → N) (chance_gives : C → ℕ → One → C → Type 0) (word_gives : C → ℕ → C → Type 0) where
  abbrev Gives : S → ℕ → S → Type 0
  Gives s number t = (name t ≡ name s) × word_gives (chances s) number (chances t)

  -- it keeps the name
  pub name_stays : (from to : S) (numbers : List ℕ) → GivesAll Gives from numbers to → name to ≡ name from
  name_stays from to [] same = sym (ap name same)
  name_stays from to (number ∷ numbers) all = name_stays all.0 to numbers all.2 ∙ all.1.0

  -- its numbers are the words of its chances
  pub words_given : (from to : S) (numbers : List ℕ) → GivesAll Gives from numbers to → GivesAll word_gives (chances from) numbers (chances to)
  words_given from to [] same = ap chances same
  words_given from to (number ∷ numbers) all = (chances all.0, all.1.1, words_given all.0 to numbers all.2)

  -- and asks its chances for words alone
  pub words_come : (old : C) (from to : S) (numbers : List ℕ) → ComesFrom chance_gives word_gives old (chances from) → GivesAll Gives from numbers to
      → ComesFrom chance_gives word_gives old (chances to)
  words_come old from to [] comes same = subst (λ (s : S). ComesFrom chance_gives word_gives old (chances s)) same comes
  words_come old from to (number ∷ numbers) comes all =
      words_come old all.0 to numbers (by_word (chances from) (chances all.0) number comes all.1.1) all.2
