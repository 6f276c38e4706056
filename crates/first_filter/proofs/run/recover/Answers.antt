use Rattle.std.proofs.Common.{slice_index}
use Rattle.std.proofs.lemmas.Result.{IfOk-weaker}
use Rattle.first_filter.proofs.Reached.{exactly_nodes}
use Rattle.first_filter.proofs.run.recover.Goals as goal

pub returns : goal.returns
returns c nodes has =
    let exactly = exactly_nodes (slice_index c.args.image.now) nodes has in
    IfOk-weaker c.recover_with_stored_kinds.result _ _
    (λ left made b. (λ held. (exactly b).0 (made.held.sound b held), λ here. made.held.complete b ((exactly b).1 here)))
    c.recover_with_stored_kinds.ensures.ok
