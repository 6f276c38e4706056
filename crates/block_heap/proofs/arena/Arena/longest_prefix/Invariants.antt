use Rattle.std.proofs.Common.{◌≡◌, ◌-◌}
use Rattle.block_heap.specs.Parts.{parts_of, cache_at}
use Rattle.block_heap.proofs.PrefixLemmas.{IsWalked, HasLoaded}
use Rattle.block_heap.proofs.arena.Arena.longest_prefix.Given as goal

abbrev pub invariant-loop-count : goal.invariant-loop-count
invariant-loop-count g l = record {
  loaded : HasLoaded l.count (parts_of l.fn.self) (parts_of l.self);
  walked : IsWalked l.class.number l.d l.last l.next l.count l.cache (parts_of l.fn.self);
  cache_is : l.cache ≡ cache_at (parts_of l.fn.self).caches l.class.number;
}

abbrev pub decreases-loop-count : goal.decreases-loop-count
decreases-loop-count g l = l.cache.count - l.count
