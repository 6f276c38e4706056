use Rattle.std.proofs.Common.{Contains, arith, subst}
use Rattle.heap_tests.proofs.crashes.events_are_replayed_one_after_another.Goals as goal

pub replay-requires : goal.replay-requires
replay-requires g c = record {
  seats = λ e has. let below = c.in_ok-events.ensures e (subst (λ events. Contains events e) c.deref.ensures.value has) in
      let same = c.seats.ensures in omega arith;
}
