use Rattle.core_model.specs.Memory.{memory_of}
use Rattle.seat_costs.proofs.AloneLemmas.{event_won, left_steady, none_lost, opened_steady}
use Rattle.seat_costs.proofs.SteadyLemmas.{looks_say}
use Rattle.seat_costs.proofs.laws.a_seat_that_is_alone_loses_nothing.Goals as goal

pub returns-clause-losses : goal.returns-clause-losses
returns-clause-losses c = λ k words v sound. none_lost k (memory_of k.capacity words) v sound.good

pub returns-clause-event : goal.returns-clause-event
returns-clause-event c = event_won

pub returns-clause-looks : goal.returns-clause-looks
returns-clause-looks c = looks_say

pub returns-clause-opened : goal.returns-clause-opened
returns-clause-opened c = opened_steady

pub returns-clause-left : goal.returns-clause-left
returns-clause-left c = left_steady
