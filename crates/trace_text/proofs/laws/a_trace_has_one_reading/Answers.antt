use Rattle.trace_text.proofs.ReadingLemmas.{one_reading, read_or_outside, one_first_outside}
use Rattle.trace_text.proofs.laws.a_trace_has_one_reading.Goals as goal

pub returns-clause-requests : goal.returns-clause-requests
returns-clause-requests c = one_reading

pub returns-clause-both : goal.returns-clause-both
returns-clause-both c = read_or_outside

pub returns-clause-first : goal.returns-clause-first
returns-clause-first c = one_first_outside
