use Rattle.trace_text.proofs.UseLemmas.{use_told}
use Rattle.trace_text.proofs.laws.each_use_is_told.Goals as goal

pub returns : goal.returns
returns c = use_told
