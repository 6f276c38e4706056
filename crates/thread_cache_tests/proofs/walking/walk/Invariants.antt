use Rattle.seat_model.specs.CacheState.{heap_view}
use Rattle.thread_cache_tests.specs.Holding.{Holds}
use Rattle.thread_cache_tests.proofs.walking.walk.Given as goal

abbrev pub invariant-loop-step : goal.invariant-loop-step
invariant-loop-step l = Holds (heap_view l.a.seat.state).held l.a.given.items × Holds (heap_view l.b.seat.state).held l.b.given.items
