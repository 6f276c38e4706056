use Rattle.heap_rule.specs.Fences.{is_own}
use Rattle.heap_rule.proofs.seat.Seat.settle_found.Goals as goal

pub returns-clause-done : goal.returns-clause-done
returns-clause-done c = is_own (c.owns.ensures.0 c.if-not-owns.false) c.settle.ensures.event.0 c.settle.ensures.event.1
