use Rattle.parcel_queue.proofs.JoinLemmas.{joins_more, keeps_a_part, sums_more}
use Rattle.parcel_queue.proofs.queue.ParcelQueue.absorb_all.Goals as goal

pub loop-other-preserved : goal.loop-other-preserved
loop-other-preserved g c = (
  c.absorb.ensures.queue,
  keeps_a_part c.loop-other.pass.account c.in-Some.other.account c.loop-other.invariant.1 c.absorb.ensures.account,
  joins_more c.args.pass.now.account c.loop-other.yielded c.in-Some.other c.loop-other.invariant.2 c.absorb.ensures.account,
  sums_more c.args.pass.now.account c.loop-other.yielded c.in-Some.other c.loop-other.pass.account c.loop-other.invariant.3 c.absorb.ensures.account,
)
