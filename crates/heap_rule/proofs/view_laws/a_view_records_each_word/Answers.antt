use Rattle.heap_rule.proofs.RawLemmas.{volatile_long, durable_long}
use Rattle.heap_rule.proofs.view_laws.a_view_records_each_word.Goals as goal

pub returns-clause-volatile : goal.returns-clause-volatile
returns-clause-volatile c v has = volatile_long v has

pub returns-clause-durable : goal.returns-clause-durable
returns-clause-durable c v has = durable_long v has
