use Rattle.heap_rule.proofs.ClosedLemmas.{cut_at_most, drawn_at_most, gave_at_most, looked_at_most, lost_at_most, moved_at_most, tried_at_most}
use Rattle.heap_rule.proofs.closed_laws.a_closed_heap_bounds_what_its_seats_did.Goals as goal

pub returns-clause-lost : goal.returns-clause-lost
returns-clause-lost c k now kept views closed = lost_at_most k now kept views closed

pub returns-clause-moved : goal.returns-clause-moved
returns-clause-moved c k now kept views closed = moved_at_most k now kept views closed

pub returns-clause-drawn : goal.returns-clause-drawn
returns-clause-drawn c k now kept views closed = drawn_at_most k now kept views closed

pub returns-clause-looked : goal.returns-clause-looked
returns-clause-looked c k now kept views closed = looked_at_most k now kept views closed

pub returns-clause-tried : goal.returns-clause-tried
returns-clause-tried c k now kept views closed = tried_at_most k now kept views closed

pub returns-clause-gave : goal.returns-clause-gave
returns-clause-gave c k now kept views closed = gave_at_most k now kept views closed

pub returns-clause-cut : goal.returns-clause-cut
returns-clause-cut c k now kept views closed = cut_at_most k now kept views closed
