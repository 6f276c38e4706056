use Rattle.heap_rule.proofs.TicketLemmas.{draws_most, is_last, looks_rise, rises}
use Rattle.heap_rule.proofs.step_laws.looks_and_tickets_rise.Goals as goal

pub returns-clause-used : goal.returns-clause-used
returns-clause-used c v w found e = looks_rise v w found e

pub returns-clause-ticket : goal.returns-clause-ticket
returns-clause-ticket c shift v w ticket e = rises shift v w ticket e

pub returns-clause-last : goal.returns-clause-last
returns-clause-last c shift v w ticket e = is_last shift v w ticket e

pub returns-clause-draws : goal.returns-clause-draws
returns-clause-draws c shift v w ticket e = draws_most shift v w ticket e
