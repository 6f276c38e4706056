use Rattle.seat_model.specs.CacheState.{heap_view}
use Rattle.thread_cache_tests.specs.Holding.{Holds}
use Rattle.thread_cache_tests.proofs.pairs.own_blocks.Given as goal

abbrev pub invariant-loop-index : goal.invariant-loop-index
invariant-loop-index l = Holds (heap_view l.seat.state).held l.given.items
