-- What a request of any size, and the freeing of any block, leave of a seat.
use Rattle.std.specs.Prelude.{◌≡◌, ◌<◌, ◌≤◌, ◌*◌, [], ℕ, Result, Ok, Err}
use Rattle.heap_model.specs.declared.block.Block.{Block}
use Rattle.heap_model.specs.Counting.{times}
use Rattle.heap_model.specs.Geometry.{start_word, superblock_words}
use Rattle.heap_model.specs.Sizes.{IsClass, IsLeastClassFor, largest_small, span_of, words_of_class}
use Rattle.heap_seat.specs.declared.fault.AllocFault.{AllocFault}
use Rattle.heap_seat.specs.declared.fault.AllocFault.TheVariants.{Full, Stopped}
use Rattle.heap_seat.specs.declared.fault.Looks.{Looks}
use Rattle.core_model.specs.Effects.{span_count}
use Rattle.core_model.specs.View.{View, of_class}
use Rattle.seat_costs.specs.Costs.{Costs, no_costs}
use Rattle.seat_costs.specs.Rows.{Stops}
use Rattle.cache_fill.specs.Refills.{IsFull}
use Rattle.large_block.specs.Splits.{MayHaveSplit}
use Rattle.thread_cache.specs.Large.{HasAllocatedLarge, HasFreedLarge, HasNoRoom}
use Rattle.thread_cache.specs.Small.{HasAllocated, HasFreed, MayHoldLess}

-- the block is one of the least class that holds so many bytes, or of as many superblocks as they take
pub data IsGranted (bytes : ℕ) (b : Block) (v w : View) : Type 0 where
  by_class : (class : ℕ) → IsLeastClassFor bytes class → HasAllocated class b v w → IsGranted bytes b v w
  by_span : largest_small < bytes → HasAllocatedLarge (span_of bytes) b v w → IsGranted bytes b v w

-- there is none, as the looks say
pub data IsRefused (bytes : ℕ) (looks : Looks) (v w : View) : Type 0 where
  by_class : (class : ℕ) → IsLeastClassFor bytes class → IsFull class looks v w → of_class v.caches class ≡ [] → IsRefused bytes looks v w
  by_span : largest_small < bytes → HasNoRoom (span_of bytes) looks v w → IsRefused bytes looks v w

-- what the answer to a request says
abbrev pub Answers : ℕ → Result Block AllocFault → View → View → Type 0
Answers bytes (Ok b) v w = IsGranted bytes b v w
Answers bytes (Err (Full looks)) v w = IsRefused bytes looks v w
Answers bytes (Err (Stopped e)) v w = Stops e.step v w

-- what a request may cost at most, with this many moves
abbrev pub request_costs : ℕ → ℕ → Costs
request_costs bytes moves = record no_costs { draws = 4108; wins = 2; cuts = 1; taken = span_of bytes; moves = moves }

-- where no superblock is cut
abbrev pub light_request : ℕ → ℕ → Costs
light_request bytes moves = record no_costs { draws = 10; wins = 2; taken = span_of bytes; moves = moves }

-- a block of the class that the seat holds
pub record IsSmallBlock (class : ℕ) (b : Block) (v : View) : Type 0 where
  pub is_class : IsClass class
  pub words : b.words ≡ words_of_class class
  pub there : 0 < times b.first_word (of_class v.small class)

-- a large block that begins in superblock d
pub record IsSpan (d : ℕ) (b : Block) (v : View) : Type 0 where
  pub there : 1 ≤ span_count d v.large
  pub block : b ≡ record { first_word = start_word v.setup.capacity d; words = superblock_words * span_count d v.large }

-- it is held no more
pub data IsGivenBack (b : Block) (v w : View) : Type 0 where
  of_a_class : (class : ℕ) → IsSmallBlock class b v → HasFreed b.first_word class v w → IsGivenBack b v w
  of_a_span : (d : ℕ) → IsSpan d b v → HasFreedLarge d v w → IsGivenBack b v w

-- at most it is held no more
pub data MayBeGivenBack (b : Block) (v w : View) : Type 0 where
  of_a_class : (class : ℕ) → IsSmallBlock class b v → MayHoldLess b.first_word class v w → MayBeGivenBack b v w
  of_a_span : (d : ℕ) → IsSpan d b v → MayHaveSplit d v w → MayBeGivenBack b v w

-- what the freeing of a block may cost at most
abbrev pub most_free_costs : Costs
most_free_costs = record no_costs { draws = 36866; wins = 8192; gives = 4096; moves = 4096 }

-- where no batch is given and no large block is freed
abbrev pub light_free_costs : Costs
light_free_costs = record no_costs { draws = 2 }
