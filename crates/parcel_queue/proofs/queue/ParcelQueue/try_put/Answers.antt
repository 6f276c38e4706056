use Rattle.std.proofs.Common.{◌<◌, sym, subst}
use Rattle.parcel_queue.specs.Account.{PassView}
use Rattle.parcel_queue.proofs.FairLemmas.{puts}
use Rattle.parcel_queue.proofs.queue.ParcelQueue.try_put.Goals as goal

pub try_push_as-requires-clause-rule : goal.try_push_as-requires-clause-rule
try_push_as-requires-clause-rule g c = let pass = c.pass.inside.inner in
    puts g.J.Fact.holds c.self.inside.ring.cap pass.id pass.me.0.client c.args.parcel
    (subst (λ (p : PassView _). 0 < p.account.parts) (sym c.pass.view_is) c.requires.parts) c.requires.fact
