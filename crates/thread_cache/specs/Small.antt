-- What holding and freeing a block of a class leaves of a seat.
use Rattle.std.specs.Prelude.{◌≡◌, ◌<◌, ◌≤◌, ◌⊎◌, ℕ, ◌+◌, ◌*◌, List, [], ◌∷◌, None, length, set, ⊤, Result, Ok, Err}
use Rattle.heap_model.specs.declared.block.Block.{Block}
use Rattle.heap_model.specs.Blocks.{IsIn}
use Rattle.heap_model.specs.Counting.{without}
use Rattle.heap_model.specs.Sizes.{blocks_of, words_of_class}
use Rattle.core_model.specs.Cells.{data_cell}
use Rattle.core_model.specs.Effects.{first_of}
use Rattle.core_model.specs.View.{View, of_class}
use Rattle.heap_rule.specs.Shown.{Shows}
use Rattle.seat_costs.specs.Costs.{Costs, no_costs}
use Rattle.heap_seat.specs.declared.fault.AllocFault.{AllocFault}
use Rattle.cache_flush.specs.Flushes.{GivesRuns}
use Rattle.cache_flush.specs.Runs.{runs_of}
use Rattle.heap_seat.specs.declared.fault.AllocFault.TheVariants.{Full, Stopped}
use Rattle.cache_fill.specs.Refills.{IsFull}
use Rattle.seat_costs.specs.Rows.{Parts, Stops, parts}
use Rattle.seat_costs.specs.Words.{IsHeldWord}

-- the block is held, and the cache of the class has these blocks
abbrev pub with_allocated : ℕ → ℕ → List ℕ → Parts → Parts
with_allocated class block cache p = record p { small = set p.small class (block ∷ of_class p.small class); caches = set p.caches class cache }

-- the block is one of the class, and new: the first of the cache, where that has one; the cache has fewer blocks than
-- a superblock, and one less where a superblock was cut
pub record HasAllocated (class : ℕ) (b : Block) (v w : View) : Type 0 where
  pub going : w.stopped ≡ None
  pub size : b.words ≡ words_of_class class
  pub cache : List ℕ
  pub first : 1 ≤ length (of_class v.caches class) → of_class v.caches class ≡ b.first_word ∷ cache
  pub short : length cache < blocks_of class
  pub cut : v.cuts < w.cuts → length cache + 1 ≡ blocks_of class
  pub parts_are : parts w ≡ with_allocated class b.first_word cache (parts v)

-- the block of the class that begins at the word
abbrev pub block_of : ℕ → ℕ → Block
block_of class first = record { first_word = first; words = words_of_class class }

-- the word is held, and none of the block's
abbrev pub IsHeldOutside : View → Block → ℕ → Type 0
IsHeldOutside v b word = IsHeldWord v word × (IsIn b word → ⊥)

-- the block leads to the first one of the cache of the class
pub record HasWay (block class : ℕ) (v w : View) : Type 0 where
  pub ran : v.stopped ≡ None
  pub going : w.stopped ≡ None
  pub parts_are : parts w ≡ parts v
  pub way : 1 ≤ length (of_class v.caches class) → Shows w (data_cell block) (first_of (of_class v.caches class))

-- the block is held no more, and the cache of the class has these blocks
abbrev pub with_freed : ℕ → ℕ → List ℕ → Parts → Parts
with_freed class block cache p = record p { small = set p.small class (without block (of_class p.small class)); caches = set p.caches class cache }

-- it is the first one of the cache
pub record HasCached (block class : ℕ) (v w : View) : Type 0 where
  pub ran : v.stopped ≡ None
  pub going : w.stopped ≡ None
  pub parts_are : parts w ≡ with_freed class block (block ∷ of_class v.caches class) (parts v)

-- the cache is flushed once it has as many blocks as a superblock, in one batch for each run, each of which lists its
-- superblock where that falls to the seat
pub record HasFreed (block class : ℕ) (v w : View) : Type 0 where
  pub going : w.stopped ≡ None
  pub cache : List ℕ
  pub kept : length (of_class v.caches class) + 1 < blocks_of class → cache ≡ block ∷ of_class v.caches class
  pub flushed : blocks_of class ≤ length (of_class v.caches class) + 1 → cache ≡ []
  pub gave : blocks_of class ≤ length (of_class v.caches class) + 1 → v.gives < w.gives
  pub gives : blocks_of class ≤ length (of_class v.caches class) + 1 → w.gives ≡ v.gives + runs_of v.setup.capacity (block ∷ of_class v.caches class)
  pub by : blocks_of class ≤ length (of_class v.caches class) + 1 → (t : View) × (HasCached block class v t × GivesRuns class t w)
  pub short : length cache < blocks_of class
  pub parts_are : parts w ≡ with_freed class block cache (parts v)

-- the block may be held no more; all others are, as before
pub record MayHoldLess (block class : ℕ) (v w : View) : Type 0 where
  pub large : w.large ≡ v.large
  pub small : (w.small ≡ v.small) ⊎ (w.small ≡ set v.small class (without block (of_class v.small class)))

-- two draws, and what flushing so many blocks costs
abbrev pub free_costs : ℕ → Costs
free_costs n = record no_costs { draws = 9 * n + 2; wins = 2 * n; gives = n; moves = n }

-- why a call gives no block: there is no room, as the looks said, and the cache had none; or the seat has stopped
abbrev pub AllocatesNone : ℕ → AllocFault → View → View → Type 0
AllocatesNone class (Full looks) v w = IsFull class looks v w × (of_class v.caches class ≡ [])
AllocatesNone class (Stopped e) v w = Stops e.step v w

-- so is it where the seat goes on
abbrev pub IfGoing : Result Block AllocFault → Type 0 → Type 0
IfGoing (Ok block) P = P
IfGoing (Err (Full looks)) P = P
IfGoing (Err (Stopped e)) P = ⊤

-- a draw beyond those of filling the cache, with this many moves, where no superblock is cut
abbrev pub light_alloc : ℕ → Costs
light_alloc moves = record no_costs { draws = 10; wins = 2; moves = moves }

-- at most
abbrev pub alloc_costs : ℕ → ℕ → Costs
alloc_costs class moves = record no_costs { draws = blocks_of class + 12; wins = 2; cuts = 1; taken = 1; moves = moves }
