use Rattle.std.proofs.Common.{◌≡◌, ◌+◌, length, All}
use Rattle.thread_cache_tests.specs.Holding.{IsBackFrom}
use Rattle.thread_cache_tests.proofs.together.gather.Given as goal

abbrev pub invariant-loop-one : goal.invariant-loop-one
invariant-loop-one l = record {
  worked : All (λ one. IsBackFrom l.shared one.seat) l.worked.items;
  seats : All (IsBackFrom l.shared) l.seats.items;
  count : length l.seats.items + length l.worked.items ≡ length l.fn.worked.items;
}

abbrev pub decreases-loop-one : goal.decreases-loop-one
decreases-loop-one l = length l.worked.items
