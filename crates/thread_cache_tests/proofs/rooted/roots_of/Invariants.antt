use Rattle.thread_cache_tests.specs.Holding.{AreRootsOf}
use Rattle.thread_cache_tests.proofs.rooted.roots_of.Given as goal

abbrev pub invariant-loop-root : goal.invariant-loop-root
invariant-loop-root l = AreRootsOf l.number l.seats l.owned.items
