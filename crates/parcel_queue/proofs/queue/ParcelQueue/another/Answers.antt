use Rattle.std.proofs.Common.{◌<◌, sym, subst}
use Rattle.parcel_queue.specs.Account.{PassView}
use Rattle.parcel_queue.proofs.FairLemmas.{forks}
use Rattle.parcel_queue.proofs.queue.ParcelQueue.another.Goals as goal

pub another-inner-requires-clause-rule : goal.another-inner-requires-clause-rule
another-inner-requires-clause-rule g c = let pass = c.pass.inside.inner in
    forks g.J.Fact.holds pass.id pass.me.0.client (subst (λ (p : PassView _). 1 < p.account.parts) (sym c.pass.view_is) c.requires.parts)
