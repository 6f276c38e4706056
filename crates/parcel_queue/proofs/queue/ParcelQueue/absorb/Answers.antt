use Rattle.std.proofs.Common.{◌<◌, sym, subst}
use Rattle.parcel_queue.specs.Account.{PassView}
use Rattle.parcel_queue.proofs.FairLemmas.{merges}
use Rattle.parcel_queue.proofs.queue.ParcelQueue.absorb.Goals as goal

pub absorb-requires-clause-rule : goal.absorb-requires-clause-rule
absorb-requires-clause-rule g c = let pass = c.pass.inside.inner in let other = c.other.inside.inner in
    merges g.J.Fact.holds pass.id pass.me.0.client other.id other.me.0.client
    (subst (λ (p : PassView _). 0 < p.account.parts) (sym c.pass.view_is) c.requires.parts)
