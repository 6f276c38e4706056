use Rattle.heap_rule.proofs.WordsLeftLemmas.{step_done, step_stops}
use Rattle.heap_rule.proofs.step_laws.a_step_of_a_seat_is_one_of_the_core.Goals as goal

pub returns-clause-done : goal.returns-clause-done
returns-clause-done c event v w found e seen going = step_done event v w found e seen going

pub returns-clause-stops : goal.returns-clause-stops
returns-clause-stops c event v w found step e seen stop = step_stops event v w found step e seen stop
