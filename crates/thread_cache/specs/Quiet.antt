-- What emptying all caches is for a seat of a heap.
use Rattle.std.specs.Prelude.{◌≡◌, ◌≤◌, ℕ, [], Some}
use Rattle.heap_model.specs.Sizes.{IsClass}
use Rattle.heap_seat.specs.Calls.{IsLargeCall, SameRefusals}
use Rattle.core_model.specs.View.{of_class}
use Rattle.cache_flush.specs.All.{cached}
use Rattle.seat_model.specs.CacheState.{CacheState, heap_view}

-- no cache has a block
pub record HasEmptyCaches (s : CacheState) : Type 0 where
  pub each : (class : ℕ) → IsClass class → of_class s.view.caches class ≡ []

-- a call that draws counts as a large one; one that finds nothing to give back does nothing, and so does one of a seat that had stopped
pub data IsQuietCall (s t : CacheState) : Type 0 where
  does_nothing : HasEmptyCaches s → t ≡ s → IsQuietCall s t
  had_stopped : (ticket : ℕ) → s.view.stopped ≡ Some ticket → t ≡ s → IsQuietCall s t
  as_large : 1 ≤ cached s.view → IsLargeCall 0 (heap_view s) (heap_view t) → SameRefusals (heap_view s) (heap_view t) → IsQuietCall s t
