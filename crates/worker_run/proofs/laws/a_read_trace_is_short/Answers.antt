use Rattle.worker_run.proofs.SaidLemmas.{lines_short}
use Rattle.worker_run.proofs.laws.a_read_trace_is_short.Goals as goal

pub returns : goal.returns
returns c = lines_short
