use Rattle.seat_model.specs.CacheState.{heap_view}
use Rattle.thread_cache_tests.specs.Holding.{Holds}
use Rattle.thread_cache_tests.proofs.flushing.trade_all.Given as goal

abbrev pub invariant-loop-order : goal.invariant-loop-order
invariant-loop-order l = Holds (heap_view l.a.seat.state).held l.a.given.items × Holds (heap_view l.b.seat.state).held l.b.given.items
