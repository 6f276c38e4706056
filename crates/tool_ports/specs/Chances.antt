-- What chances come to, call by call, said by what their kind says that each call gives.
use Rattle.std.specs.Prelude.{ℕ}

-- the chances come from the old ones by chances that workers were given and words that were taken, and by no seed
pub data ComesFrom {C One : Type 0} (chance_gives : C → ℕ → One → C → Type 0) (word_gives : C → ℕ → C → Type 0) (old : C) : C → Type 0 where
  unasked : ComesFrom chance_gives word_gives old old
  by_chance : (now new : C) (worker : ℕ) (chance : One) → ComesFrom chance_gives word_gives old now → chance_gives now worker chance new
      → ComesFrom chance_gives word_gives old new
  by_word : (now new : C) (word : ℕ) → ComesFrom chance_gives word_gives old now → word_gives now word new
      → ComesFrom chance_gives word_gives old new

-- the chances began anew by the seed, first of all and once, and come from that
pub record ComesFromSeed {C One : Type 0} (seed_gives : C → ℕ → C → Type 0) (chance_gives : C → ℕ → One → C → Type 0) (word_gives : C → ℕ → C → Type 0)
    (old : C) (seed : ℕ) (new : C) : Type 0 where
  pub begun : C
  pub anew : seed_gives old seed begun
  pub from_it : ComesFrom chance_gives word_gives begun new
