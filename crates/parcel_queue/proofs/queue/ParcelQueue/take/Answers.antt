use Rattle.std.proofs.Common.{◌<◌, sym, subst}
use Rattle.parcel_queue.specs.Account.{PassView}
use Rattle.parcel_queue.proofs.FairLemmas.{takes, learns}
use Rattle.parcel_queue.proofs.queue.ParcelQueue.take.Goals as goal

pub pop_as-requires-clause-rule : goal.pop_as-requires-clause-rule
pop_as-requires-clause-rule g c = let pass = c.pass.inside.inner in (
  takes g.J.Fact.holds pass.id pass.me.0.client (subst (λ (p : PassView _). 0 < p.account.parts) (sym c.pass.view_is) c.requires.parts),
  learns g.J.Fact.holds pass.id pass.me.0.client,
)
