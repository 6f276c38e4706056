use Rattle.seat_model.specs.CacheState.{heap_view}
use Rattle.thread_cache_tests.specs.Holding.{Holds}
use Rattle.thread_cache_tests.proofs.flushing.free_in_order.Given as goal

abbrev pub invariant-loop-nth : goal.invariant-loop-nth
invariant-loop-nth l = Holds (heap_view l.who.seat.state).held l.who.given.items
