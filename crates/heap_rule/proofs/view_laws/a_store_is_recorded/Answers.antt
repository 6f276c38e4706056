use Rattle.heap_rule.proofs.RawLemmas.{load_shown, store_shown, store_volatile, store_durable, settle_left}
use Rattle.heap_rule.proofs.view_laws.a_store_is_recorded.Goals as goal

pub returns-clause-stored : goal.returns-clause-stored
returns-clause-stored c word value v w found e = store_shown word value v w found e

pub returns-clause-volatile : goal.returns-clause-volatile
returns-clause-volatile c word value v w found e = store_volatile word value v w found e

pub returns-clause-durable : goal.returns-clause-durable
returns-clause-durable c word value v w found e = store_durable word value v w found e

pub returns-clause-settled : goal.returns-clause-settled
returns-clause-settled c word value v w found e shows = settle_left word value v w found e shows

pub returns-clause-loaded : goal.returns-clause-loaded
returns-clause-loaded c word value v w e = load_shown word value v w e
