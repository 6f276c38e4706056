-- What flushing a cache leaves of a seat.
use Rattle.std.specs.Prelude.{◌≡◌, ◌<◌, ◌≤◌, ◌+◌, ◌*◌, ℕ, Bool, true, false, List, [], ◌++◌, length, set, None}
use Rattle.heap_model.specs.Words.{anchor_state, empty_state, partial_state}
use Rattle.core_model.specs.Effects.{without_claim}
use Rattle.core_model.specs.View.{View, of_class}
use Rattle.superblock_lists.specs.Anchors.{HasSeenAnchor}
use Rattle.seat_costs.specs.Costs.{Costs, no_costs}
use Rattle.seat_costs.specs.Rows.{Parts, ViewRow, parts}
use Rattle.cache_flush.specs.Gives.{HasGiven}
use Rattle.cache_flush.specs.Lifts.{HasLiftedPrefix}
use Rattle.cache_flush.specs.Runs.{runs_of}

-- it is claimed no more, by one exchange that was won: by its anchor as it was seen, it was moved to the list of the free ones, or nothing was
pub record HasListedBy (d anchor : ℕ) (v w : View) : Type 0 where
  pub going : w.stopped ≡ None
  pub parts_are : parts w ≡ record (parts v) { classed = without_claim d v.classed }
  pub wins : w.wins ≤ v.wins + 1
  pub empty : anchor_state anchor ≡ empty_state → w.moves ≡ v.moves + 1
  pub partial : anchor_state anchor ≡ partial_state → w.moves ≡ v.moves

-- so it is after a look at the anchor
pub record HasListed (d : ℕ) (v w : View) : Type 0 where
  pub anchor : ℕ
  pub at : View
  pub seen : HasSeenAnchor d anchor v at
  pub low : anchor_state anchor < 2
  pub by : HasListedBy d anchor at w
  pub parts_are : parts w ≡ record (parts v) { classed = without_claim d v.classed }
  pub wins : w.wins ≤ v.wins + 1
  pub empty : anchor_state anchor ≡ empty_state → w.moves ≡ v.moves + 1
  pub partial : anchor_state anchor ≡ partial_state → w.moves ≡ v.moves

-- once a batch was given: where no block of superblock d was free before, it is listed by a look at its anchor behind that
abbrev pub ListsBehind : Bool → ℕ → View → View → Type 0
ListsBehind true d given w = HasListed d given w
ListsBehind false d given w = w ≡ given

-- the first run of the cache was lifted, given in one batch, and its superblock listed where that fell to the seat
pub record GivesRun (class : ℕ) (v w : View) : Type 0 where
  pub d : ℕ
  pub last : ℕ
  pub full : Bool
  pub lifted : View
  pub given : View
  pub lifts : HasLiftedPrefix class d last v lifted
  pub gives : HasGiven d class full lifted given
  pub lists : ListsBehind full d given w

-- so was one run after the other
pub data GivesRuns (class : ℕ) (v : View) : View → Type 0 where
  gave_none : (w : View) → w ≡ v → GivesRuns class v w
  gave_more : (t w : View) → GivesRuns class v t → GivesRun class t w → GivesRuns class v w

-- the seat has its parts, but for the cache of the class
abbrev pub with_cache : ℕ → List ℕ → Parts → Parts
with_cache class blocks p = record p { caches = set p.caches class blocks }

-- of so many blocks in so many runs: for each block 2 draws, and for each run 7 draws, 2 exchanges that are won, a
-- give, and a superblock that may be moved
abbrev pub flush_costs : ℕ → ℕ → Costs
flush_costs blocks runs = record no_costs { draws = 2 * blocks + 7 * runs; wins = 2 * runs; gives = runs; moves = runs }

-- how many runs the cache of a class is
abbrev pub cache_runs : View → ℕ → ℕ
cache_runs v class = runs_of v.setup.capacity (of_class v.caches class)

-- of the whole cache
abbrev pub cache_costs : View → ℕ → Costs
cache_costs v class = flush_costs (length (of_class v.caches class)) (cache_runs v class)

-- the first run of the cache is with its superblock again, in one batch
pub record HasFlushedPrefix (class : ℕ) (v w : View) : Type 0 where
  pub ran : v.stopped ≡ None
  pub going : w.stopped ≡ None
  pub room : v.draws < v.setup.budget
  pub more : v.draws < w.draws
  pub gives : w.gives ≡ v.gives + 1
  pub flushed : List ℕ
  pub rest : List ℕ
  pub both : of_class v.caches class ≡ flushed ++ rest
  pub some : 1 ≤ length flushed
  pub runs : cache_runs v class ≡ 1 + runs_of v.setup.capacity rest
  pub parts_are : parts w ≡ with_cache class rest (parts v)
  pub by : GivesRun class v w
  pub row : ViewRow (flush_costs (length flushed) 1) v w

-- all are, in one batch for each run
pub record HasFlushed (class : ℕ) (v w : View) : Type 0 where
  pub going : w.stopped ≡ None
  pub more : 1 ≤ length (of_class v.caches class) → v.draws < w.draws
  pub gave : 1 ≤ length (of_class v.caches class) → v.gives < w.gives
  pub gives : w.gives ≡ v.gives + cache_runs v class
  pub by : GivesRuns class v w
  pub parts_are : parts w ≡ with_cache class [] (parts v)
