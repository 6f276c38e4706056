use Rattle.seat_model.specs.CacheState.{heap_view}
use Rattle.thread_cache.specs.Keeps.{KeepsSeat}
use Rattle.thread_cache_tests.specs.Holding.{Holds, anything}
use Rattle.thread_cache_tests.proofs.rolling.roll_often.Given as goal

abbrev pub invariant-loop-turn : goal.invariant-loop-turn
invariant-loop-turn l = record {
  holds : Holds (heap_view l.seat.state).held l.given.items;
  kept : KeepsSeat anything l.fn.seat l.seat;
}
