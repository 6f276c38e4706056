use Rattle.std.proofs.Common.{refl}
use Rattle.root_reach.specs.Steps.{added}
use Rattle.root_reach.proofs.labels.Labelling.add.Goals as goal

pub returns-in_ok-push-clause-ok : goal.returns-in_ok-push-clause-ok
returns-in_ok-push-clause-ok c =
    added c.in-Some.joined (rw (← c.origin_of-told.ensures) c.in-Some.ensures.some) c.in_ok-push.ensures.items
    (rw (c.mark_at-at.ensures, c.pack.ensures) refl)
