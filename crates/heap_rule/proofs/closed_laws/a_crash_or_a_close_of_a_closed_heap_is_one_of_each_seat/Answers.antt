use Rattle.heap_rule.proofs.ClosedLemmas.{closes, crashes}
use Rattle.heap_rule.proofs.closed_laws.a_crash_or_a_close_of_a_closed_heap_is_one_of_each_seat.Goals as goal

pub returns-clause-crash : goal.returns-clause-crash
returns-clause-crash c k now kept views closed image crash = crashes k now kept views closed image crash

pub returns-clause-close : goal.returns-clause-close
returns-clause-close c k now kept views closed image close = closes k now kept views closed image close
