use Rattle.trace_text.proofs.LongestLemmas.{are_longest}
use Rattle.trace_text.proofs.laws.runs_are_the_longest.Goals as goal

pub returns : goal.returns
returns c = are_longest
