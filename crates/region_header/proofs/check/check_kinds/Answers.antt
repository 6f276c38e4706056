use Rattle.std.proofs.Common.{inr, refl, sym}
use Rattle.heap_model.proofs.HeaderLemmas.{no_fault, kind_fault}
use Rattle.region_header.proofs.KindLemmas.{stored_below, below_stored}
use Rattle.region_header.proofs.check.check_kinds.Goals as goal

pub returns-then-are_below-clause-cause : goal.returns-then-are_below-clause-cause
returns-then-are_below-clause-cause c size image has =
    let below = stored_below c.args.limit image c.args.stored.now has.count has.kinds_are (c.if-are_below.ensures.0 refl) in
    sym (no_fault c.args.limit size image (inr (has.formed, below)))

pub returns-then-are_below-clause-good : goal.returns-then-are_below-clause-good
returns-then-are_below-clause-good c size image has =
    inr (has.formed, stored_below c.args.limit image c.args.stored.now has.count has.kinds_are (c.if-are_below.ensures.0 refl))

pub returns-else-are_below-clause-cause : goal.returns-else-are_below-clause-cause
returns-else-are_below-clause-cause c size image has =
    sym (kind_fault c.args.limit size image has.formed (λ below.
    let wrong = c.if-are_below.ensures.1 (below_stored c.args.limit image c.args.stored.now has.count has.kinds_are below) in absurd (cc)))
