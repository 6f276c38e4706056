use Rattle.trace_text.proofs.ScheduleLemmas.{steps_of_seats}
use Rattle.trace_text.proofs.laws.a_schedule_has_its_seats.Goals as goal

pub returns-clause-seats : goal.returns-clause-seats
returns-clause-seats c text schedule is = (is.seats_are.some, is.seats_are.at_most_8)

pub returns-clause-each : goal.returns-clause-each
returns-clause-each c text schedule is = steps_of_seats schedule.seats is.further schedule.lines.items is.steps_are
