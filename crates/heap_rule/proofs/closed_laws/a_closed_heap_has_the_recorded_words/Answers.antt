use Rattle.heap_rule.proofs.ClosedLemmas.{recorded}
use Rattle.heap_rule.proofs.closed_laws.a_closed_heap_has_the_recorded_words.Goals as goal

pub returns : goal.returns
returns c k now kept views closed = recorded k now kept views closed
