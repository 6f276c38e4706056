use Rattle.seat_model.proofs.ClosedLemmas.{closed_holds, closed_is_orderly}
use Rattle.seat_model.proofs.closing.a_closed_heap_tells_what_it_holds.Goals as goal

pub returns-clause-orderly : goal.returns-clause-orderly
returns-clause-orderly c k now kept views closed nothing formed limit kinds image close =
    closed_is_orderly k now kept views closed nothing formed limit kinds image close

pub returns-clause-held : goal.returns-clause-held
returns-clause-held c k now kept views closed nothing image close b = closed_holds k now kept views closed nothing image close b
