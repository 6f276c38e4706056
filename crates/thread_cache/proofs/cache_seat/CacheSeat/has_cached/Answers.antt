use Rattle.std.proofs.Common.{ap, arith}
use Rattle.seat_model.specs.CacheState.{CacheState}
use Rattle.cache_flush.specs.All.{cached}
use Rattle.thread_cache.proofs.CallLemmas.{state_is}
use Rattle.thread_cache.proofs.QuietLemmas.{one_cached}
use Rattle.thread_cache.proofs.cache_seat.CacheSeat.has_cached.Goals as goal

pub returns-then-count-gt0-clause-yes : goal.returns-then-count-gt0-clause-yes
returns-then-count-gt0-clause-yes g c = λ yes. let some = c.cache-count.ensures.count in
    let is = ap (λ (s : CacheState). cached s.view) (state_is c.self.view_is) in
    let one = one_cached c.self.inside.seat.view c.new.result.number (omega (arith, c.if-count-gt0.true)) in omega arith
