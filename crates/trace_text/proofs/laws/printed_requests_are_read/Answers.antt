use Rattle.trace_text.proofs.PrintedLemmas.{read_again, made_read}
use Rattle.trace_text.proofs.laws.printed_requests_are_read.Goals as goal

pub returns-clause-printed : goal.returns-clause-printed
returns-clause-printed c = read_again

pub returns-clause-made : goal.returns-clause-made
returns-clause-made c = made_read
