-- Chances by PCG generators that have a seed as their state, a stream for each worker and one for words.
use Rattle.std.specs.Prelude.{◌≡◌, ℕ}
use Rattle.rand_core.specs.Steps.{stream_of, steps_u32}
use Rattle.rand_core.specs.Stream.{next_u64}
use Rattle.rand_pcg.specs.Lcg.{Lcg, started, increment_of}
use Rattle.rand_pcg.specs.Pcg.{multiplier_64, pcg32}
use Rattle.tool_ports.specs.Causes.{one_more}
use Rattle.tool_ports.specs.declared.seeded_chances.SeededChances.{SeededChances}
use Rattle.tool_ports.specs.declared.seeded_chances.SeededChance.{SeededChance}

-- a generator on a stream of the numbers of a seed
abbrev pub begun : ℕ → ℕ → Lcg
begun seed stream = started 64 multiplier_64 seed (increment_of 64 stream)

-- the stream of a worker; stream 0 is that of the words
abbrev pub stream_of_worker : ℕ → ℕ
stream_of_worker worker = one_more worker

-- a generator gives its next number of 64 bits
abbrev pub GivesNext : Lcg → ℕ → Lcg → Type 0
GivesNext old number new = (number, stream_of (steps_u32 pcg32) new) ≡ next_u64 (stream_of (steps_u32 pcg32) old)

-- the seed
abbrev pub seed_of : SeededChances → ℕ
seed_of chances = chances.seed

-- the generator of the words
abbrev pub words_of : SeededChances → Lcg
words_of chances = chances.words

-- the generator of one worker's chance
abbrev pub generator_of : SeededChance → Lcg
generator_of chance = chance.generator

-- the chances begin by this seed: it is theirs, and the words are those of its stream 0, from the first on
pub record BeginsBy (seed : ℕ) (new : SeededChances) : Type 0 where
  pub seed_is : seed_of new ≡ seed
  pub words : words_of new ≡ begun seed 0

-- a worker is given the numbers of its stream, from the first on, and the chances stay
pub record GivesChance (old : SeededChances) (worker : ℕ) (chance : SeededChance) (new : SeededChances) : Type 0 where
  pub numbers : generator_of chance ≡ begun (seed_of old) (stream_of_worker worker)
  pub unchanged : new ≡ old

-- the word is the next one, and the seed stays
pub record GivesWord (old : SeededChances) (word : ℕ) (new : SeededChances) : Type 0 where
  pub next : GivesNext (words_of old) word (words_of new)
  pub seed_stays : seed_of new ≡ seed_of old
