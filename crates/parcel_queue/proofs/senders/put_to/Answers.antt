use Rattle.std.proofs.Common.{subst, arith}
use Rattle.parcel_queue.specs.Account.{QueueView}
use Rattle.parcel_queue.specs.Row.{IsPassOf}
use Rattle.parcel_queue.proofs.RowLemmas.{as_many, at_place, still_passes, still_one, row_after}
use Rattle.parcel_queue.proofs.senders.put_to.Goals as goal

pub index_mut-requires : goal.index_mut-requires
index_mut-requires g c = let n = as_many c.args.queues.now c.args.passes.now.items c.requires.passes in let to = c.requires.to in
    let ok = c.args.passes.now.ok in omega (arith, n, to, ok)

pub try_put-requires-clause-queue : goal.try_put-requires-clause-queue
try_put-requires-clause-queue g c = (at_place c.args.queues.now c.args.passes.now.items c.args.to c.index-queues-to.result c.index_mut.result.now
    c.requires.passes c.requires.to c.index-queues-to.is c.index_mut.ensures.value).same

pub try_put-requires-clause-parts : goal.try_put-requires-clause-parts
try_put-requires-clause-parts g c = (at_place c.args.queues.now c.args.passes.now.items c.args.to c.index-queues-to.result c.index_mut.result.now
    c.requires.passes c.requires.to c.index-queues-to.is c.index_mut.ensures.value).more

pub returns-clause-passes : goal.returns-clause-passes
returns-clause-passes g c =
    let end = at_place c.args.queues.now c.args.passes.now.items c.args.to c.index-queues-to.result c.index_mut.result.now
    c.requires.passes c.requires.to c.index-queues-to.is c.index_mut.ensures.value in
    still_passes c.args.queues.now c.args.passes.now.items c.args.to c.index-queues-to.result c.try_put.new.pass c.requires.passes c.requires.to
    (subst (λ (q : QueueView). IsPassOf q c.try_put.new.pass) c.index-queues-to.is
    (still_one c.index-queues-to.result c.index_mut.result.now c.try_put.new.pass c.args.parcel c.try_put.result end
    c.try_put.ensures.queue c.try_put.ensures.put))

pub returns-clause-put : goal.returns-clause-put
returns-clause-put g c =
    let end = at_place c.args.queues.now c.args.passes.now.items c.args.to c.index-queues-to.result c.index_mut.result.now
    c.requires.passes c.requires.to c.index-queues-to.is c.index_mut.ensures.value in
    let n = as_many c.args.queues.now c.args.passes.now.items c.requires.passes in let to = c.requires.to in
    row_after c.args.passes.now.items c.args.to c.index-queues-to.result c.index_mut.result.now c.try_put.new.pass c.args.parcel c.try_put.result
    (omega (arith, n, to)) c.index_mut.ensures.value end c.try_put.ensures.queue c.try_put.ensures.put
