use Rattle.trace_text.proofs.ScheduleLemmas.{one_schedule, schedule_or_bad, one_bad}
use Rattle.trace_text.proofs.laws.a_schedule_has_one_reading.Goals as goal

pub returns-clause-schedule : goal.returns-clause-schedule
returns-clause-schedule c = one_schedule

pub returns-clause-both : goal.returns-clause-both
returns-clause-both c = schedule_or_bad

pub returns-clause-first : goal.returns-clause-first
returns-clause-first c = one_bad
