use Rattle.heap_rule.proofs.ClosedLemmas.{taken_in_all, kept_behind, in_room, drawn_in_all}
use Rattle.heap_rule.proofs.closed_laws.a_closed_heap_counts_what_its_seats_did.Goals as goal

pub returns-clause-taken : goal.returns-clause-taken
returns-clause-taken c k now kept views closed = taken_in_all k now kept views closed

pub returns-clause-durable : goal.returns-clause-durable
returns-clause-durable c k now kept views closed = kept_behind k now kept views closed

pub returns-clause-room : goal.returns-clause-room
returns-clause-room c k now kept views closed = in_room k now kept views closed

pub returns-clause-draws : goal.returns-clause-draws
returns-clause-draws c k now kept views closed = drawn_in_all k now kept views closed
