use Rattle.seat_costs.proofs.AskedLemmas.{asked_none, asked_then}
use Rattle.seat_costs.proofs.laws.asked_numbers_add_up.Goals as goal

pub returns-clause-none : goal.returns-clause-none
returns-clause-none g c = λ v chance. asked_none v chance

pub returns-clause-both : goal.returns-clause-both
returns-clause-both g c = λ u v w a b d first second. asked_then first second
