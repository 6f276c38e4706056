use Rattle.std.proofs.Common.{[], ◌∷◌, ◌++◌}
use Rattle.heap_rule.proofs.ClosedLemmas.{mixed_is}
use Rattle.heap_rule.proofs.SeatImageLemmas.{mixed_fixed, mixed_header}
use Rattle.heap_rule.proofs.closed_laws.a_closed_heap_has_the_opened_header.Goals as goal

pub returns-clause-fixed : goal.returns-clause-fixed
returns-clause-fixed c k now kept views closed image mixed =
    mixed_fixed k (now ++ (kept ++ (closed.drawn ∷ []))) views closed.sound image (mixed_is k now kept views closed image mixed)

pub returns-clause-header : goal.returns-clause-header
returns-clause-header c k now kept views closed good limit below image mixed =
    mixed_header k (now ++ (kept ++ (closed.drawn ∷ []))) views closed.sound image (mixed_is k now kept views closed image mixed) good limit below
