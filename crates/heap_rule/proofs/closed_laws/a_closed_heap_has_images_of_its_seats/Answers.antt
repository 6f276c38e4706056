use Rattle.heap_rule.proofs.ClosedLemmas.{images}
use Rattle.heap_rule.proofs.closed_laws.a_closed_heap_has_images_of_its_seats.Goals as goal

pub returns : goal.returns
returns c k now kept views closed image mixed = images k now kept views closed image mixed
