use Rattle.std.proofs.Common.{◌≡◌, ◌+◌, length, All}
use Rattle.thread_cache_tests.specs.Holding.{HaveRoots, IsFreshSeatOf, IsJobOf}
use Rattle.thread_cache_tests.proofs.together.deal.Given as goal

abbrev pub invariant-loop-seat : goal.invariant-loop-seat
invariant-loop-seat l = record {
  seats : All (IsFreshSeatOf l.shared) l.seats.items;
  roots : HaveRoots (length l.fn.seats.items) l.seats.items;
  jobs : All (λ job. IsJobOf l.shared job.roots.items job.seat) l.jobs.items;
  count : length l.jobs.items + length l.seats.items ≡ length l.fn.seats.items;
}

abbrev pub decreases-loop-seat : goal.decreases-loop-seat
decreases-loop-seat l = length l.seats.items
