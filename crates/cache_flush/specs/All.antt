-- What flushing all caches leaves of a seat.
use Rattle.std.specs.Prelude.{◌≡◌, ◌<◌, ◌≤◌, ℕ, ◌+◌, [], None, length}
use Rattle.heap_model.specs.Counting.{total}
use Rattle.heap_model.specs.Sizes.{IsClass}
use Rattle.core_model.specs.View.{View, of_class}
use Rattle.seat_costs.specs.Costs.{Costs}
use Rattle.seat_costs.specs.Rows.{parts}
use Rattle.cache_flush.specs.Flushes.{GivesRuns, flush_costs}
use Rattle.cache_flush.specs.Runs.{runs_of}

-- how many blocks are in the caches
abbrev pub cached : View → ℕ
cached v = total length v.caches

-- how many runs the caches are
abbrev pub cached_runs : View → ℕ
cached_runs v = total (runs_of v.setup.capacity) v.caches

-- of giving back all of them
abbrev pub all_costs : View → Costs
all_costs v = flush_costs (cached v) (cached_runs v)

-- the runs of one cache after the other were given
pub data GivesCaches (v : View) : View → Type 0 where
  gave_no_cache : (w : View) → w ≡ v → GivesCaches v w
  gave_cache : (class : ℕ) (t w : View) → GivesCaches v t → GivesRuns class t w → GivesCaches v w

-- no cache has a block, as each run was given back in one batch, and the seat has its other parts
pub record HasFlushedAll (v w : View) : Type 0 where
  pub going : w.stopped ≡ None
  pub more : 1 ≤ cached v → v.draws < w.draws
  pub gave : 1 ≤ cached v → v.gives < w.gives
  pub gives : w.gives ≡ v.gives + cached_runs v
  pub by : GivesCaches v w
  pub parts_are : parts w ≡ record (parts v) { caches = w.caches }
  pub empty : (class : ℕ) → IsClass class → of_class w.caches class ≡ []
