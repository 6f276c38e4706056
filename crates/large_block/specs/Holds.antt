-- What the holding of a large block needs, and what it leaves of a seat.
use Rattle.std.specs.Prelude.{◌≡◌, ◌<◌, ◌≤◌, ◌+◌, ◌*◌, ◌∷◌, ℕ, None}
use Rattle.heap_model.specs.declared.block.Block.{Block}
use Rattle.heap_model.specs.Counting.{times}
use Rattle.heap_model.specs.Geometry.{start_word, superblock_words}
use Rattle.core_model.specs.Effects.{without_range}
use Rattle.core_model.specs.View.{View}
use Rattle.large_block.specs.Fresh.{AreBlankFrom}
use Rattle.seat_costs.specs.Rows.{Parts, parts}

-- n superblocks from d on are claimed without a class, no crash forgets that they were taken, and nothing is in their descriptors
pub record IsFreshClaim (d n : ℕ) (v : View) : Type 0 where
  pub some : 1 ≤ n
  pub durable : d + n ≤ v.floor
  pub raw : (e : ℕ) → d ≤ e → e < d + n → 0 < times e v.raw
  pub blank : AreBlankFrom d n v

-- they are a held large block
abbrev pub with_large : ℕ → ℕ → Parts → Parts
with_large d n p = record p { large = record { first = d; count = n } ∷ p.large; raw = without_range d n p.raw; split = without_range d n p.split }

-- the block is held
pub record HasHeld (d n : ℕ) (b : Block) (v w : View) : Type 0 where
  pub going : w.stopped ≡ None
  pub parts_are : parts w ≡ with_large d n (parts v)
  pub block : b ≡ record { first_word = start_word v.setup.capacity d; words = superblock_words * n }
  pub look : w.used_look ≡ v.used_look
