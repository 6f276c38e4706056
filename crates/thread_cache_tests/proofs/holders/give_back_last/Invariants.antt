use Rattle.thread_cache_tests.specs.Holding.{Holds}
use Rattle.thread_cache_tests.proofs.holders.give_back_last.Given as goal

abbrev pub invariant-loop-nth : goal.invariant-loop-nth
invariant-loop-nth g l = Holds (g.H.HeapSeat.view l.seat).held l.given.items × g.H.HeapSeat.keeps l.fn.seat l.seat
