-- What holding and freeing a large block leaves of a seat.
use Rattle.std.specs.Prelude.{◌≡◌, ◌<◌, ◌≤◌, ◌+◌, ◌*◌, ◌∷◌, [], ℕ, None}
use Rattle.heap_model.specs.declared.block.Block.{Block}
use Rattle.heap_model.specs.Geometry.{start_word, superblock_words}
use Rattle.heap_seat.specs.declared.fault.AllocFault.{AllocFault}
use Rattle.heap_seat.specs.declared.fault.AllocFault.TheVariants.{Full, Stopped}
use Rattle.heap_seat.specs.declared.fault.Looks.{Looks}
use Rattle.core_model.specs.Effects.{without_span}
use Rattle.core_model.specs.View.{View}
use Rattle.cache_fill.specs.Refills.{IsLook}
use Rattle.seat_costs.specs.Costs.{Costs, no_costs}
use Rattle.seat_costs.specs.Rows.{IsMade, Stops, next_of, parts}

-- a block of n superblocks is held, which are the first that were not taken, as the last look at the mark said: there
-- is room for them, and they count as taken
pub record HasAllocatedLarge (n : ℕ) (b : Block) (v w : View) : Type 0 where
  pub going : w.stopped ≡ None
  pub first : ℕ
  pub parts_are : parts w ≡ record (parts v) { large = record { first = first; count = n } ∷ v.large }
  pub block : b ≡ record { first_word = start_word v.setup.capacity first; words = superblock_words * n }
  pub room : first + n ≤ v.setup.capacity
  pub seen : w.used_look.word ≡ first
  pub made : IsMade (next_of v) (next_of w) v.taken v.taken w.used_look
  pub taken : w.taken ≡ v.taken + n

-- the seat has what it had; the mark left no room for n superblocks, as its last look said, and nothing was won
pub record HasNoRoom (n : ℕ) (looks : Looks) (v w : View) : Type 0 where
  pub going : w.stopped ≡ None
  pub parts_are : parts w ≡ parts v
  pub wins : w.wins ≡ v.wins
  pub taken : w.taken ≡ v.taken
  pub cuts : w.cuts ≡ v.cuts
  pub heads : w.head_looks ≡ v.head_looks
  pub class_unread : looks.class_head ≡ 0
  pub free_unread : looks.free_head ≡ 0
  pub used_look : IsLook w.used_look looks.used w
  pub since : next_of v ≤ used_look.ticket
  pub below : used_look.ticket < next_of w
  pub past : v.setup.capacity < looks.used + n

-- why no block is held
abbrev pub AllocatesNoLarge : ℕ → AllocFault → View → View → Type 0
AllocatesNoLarge n (Full looks) v w = HasNoRoom n looks v w
AllocatesNoLarge n (Stopped stopped) v w = Stops stopped.step v w

-- what a block of n superblocks costs
abbrev pub large_costs : ℕ → Costs
large_costs n = record no_costs { draws = 5; wins = 1; taken = n }

-- all that were claimed without a class are in the list of the free ones
pub record HasListedAll (v w : View) : Type 0 where
  pub going : w.stopped ≡ None
  pub parts_are : parts w ≡ record (parts v) { raw = [] }

-- what the pushing of n superblocks costs
abbrev pub list_costs : ℕ → Costs
list_costs n = record no_costs { draws = 3 * n; wins = n; moves = n }

-- the large block from d on is held no more
pub record HasFreedLarge (d : ℕ) (v w : View) : Type 0 where
  pub going : w.stopped ≡ None
  pub parts_are : parts w ≡ record (parts v) { large = without_span d v.large }

-- what the freeing of a block of n superblocks costs
abbrev pub large_free_costs : ℕ → Costs
large_free_costs n = record no_costs { draws = n + 1 + 3 * n; wins = n; moves = n }
