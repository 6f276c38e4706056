use Rattle.heap_rule.proofs.HandingLemmas.{handed_none}
use Rattle.heap_rule.proofs.handing_laws.seats_that_hand_nothing_leave_no_carrier.Goals as goal

pub returns : goal.returns
returns c shared seats are none = handed_none shared seats are none
