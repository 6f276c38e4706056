use Rattle.std.proofs.Common.{ap, sym, ◌∙◌}
use Rattle.seat_model.specs.CacheState.{CacheState}
use Rattle.thread_cache.proofs.CallLemmas.{state_is, stop_again}
use Rattle.thread_cache.proofs.cache_seat.CacheSeat.check_running.Goals as goal

pub returns-in-Some-clause-stopped : goal.returns-in-Some-clause-stopped
returns-in-Some-clause-stopped g c = stop_again c.args.self.now.state c.in-Some.step
    (ap (λ (s : CacheState). s.view.stopped) (sym (state_is c.self.view_is)) ∙ sym c.stopped.ensures ∙ c.in-Some.is)
