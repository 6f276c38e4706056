use Rattle.std.proofs.Common.{◌≡◌}
use Rattle.seat_model.specs.CacheState.{heap_view}
use Rattle.thread_cache_tests.specs.Holding.{anything}
use Rattle.thread_cache.specs.Keeps.{KeepsSeat}
use Rattle.thread_cache_tests.proofs.scripts.publish.Given as goal

abbrev pub invariant-loop-index : goal.invariant-loop-index
invariant-loop-index l = record {
  held : (heap_view l.seat.state).held ≡ (heap_view l.fn.seat.state).held;
  kept : KeepsSeat anything l.fn.seat l.seat;
}
