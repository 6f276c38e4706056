use Rattle.std.proofs.Common.{◌≡◌, ◌<◌, ℕ, []}
use Rattle.heap_model.specs.Sizes.{IsClass}
use Rattle.core_model.specs.View.{of_class}
use Rattle.thread_cache.proofs.cache_seat.CacheSeat.has_cached.Given as goal

-- no cache of a class before has a block
abbrev pub invariant-loop-number : goal.invariant-loop-number
invariant-loop-number g l = (class : ℕ) → IsClass class → class < l.number → of_class l.self.state.view.caches class ≡ []
