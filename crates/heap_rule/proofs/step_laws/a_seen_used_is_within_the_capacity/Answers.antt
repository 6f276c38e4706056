use Rattle.heap_rule.proofs.WordsLeftLemmas.{used_within}
use Rattle.heap_rule.proofs.step_laws.a_seen_used_is_within_the_capacity.Goals as goal

pub returns : goal.returns
returns c v w found e = used_within v w found e
