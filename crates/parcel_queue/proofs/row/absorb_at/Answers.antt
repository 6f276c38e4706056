use Rattle.std.proofs.Common.{subst, arith}
use Rattle.parcel_queue.specs.Account.{QueueView}
use Rattle.parcel_queue.specs.Row.{IsPassOf}
use Rattle.parcel_queue.proofs.RowLemmas.{as_many, at_place, of_place, still_passes, joined_one, row_joined}
use Rattle.parcel_queue.proofs.row.absorb_at.Goals as goal

pub index_mut-requires : goal.index_mut-requires
index_mut-requires g c = let n = as_many c.args.queues.now c.args.owners.now.items c.requires.owners in let at = c.requires.at in
    let ok = c.args.owners.now.ok in omega (arith, n, at, ok)

pub absorb-requires-clause-queue : goal.absorb-requires-clause-queue
absorb-requires-clause-queue g c = (
  (at_place c.args.queues.now c.args.owners.now.items c.args.at c.index-queues-at.result c.index_mut.result.now
      c.requires.owners c.requires.at c.index-queues-at.is c.index_mut.ensures.value).same,
  of_place c.args.queues.now c.args.at c.index-queues-at.result c.args.other c.requires.other c.index-queues-at.is,
)

pub absorb-requires-clause-parts : goal.absorb-requires-clause-parts
absorb-requires-clause-parts g c = (at_place c.args.queues.now c.args.owners.now.items c.args.at c.index-queues-at.result c.index_mut.result.now
    c.requires.owners c.requires.at c.index-queues-at.is c.index_mut.ensures.value).more

pub returns-clause-owners : goal.returns-clause-owners
returns-clause-owners g c =
    let end = at_place c.args.queues.now c.args.owners.now.items c.args.at c.index-queues-at.result c.index_mut.result.now
    c.requires.owners c.requires.at c.index-queues-at.is c.index_mut.ensures.value in
    still_passes c.args.queues.now c.args.owners.now.items c.args.at c.index-queues-at.result c.absorb.new.pass c.requires.owners c.requires.at
    (subst (λ (q : QueueView). IsPassOf q c.absorb.new.pass) c.index-queues-at.is
    (joined_one c.index-queues-at.result c.index_mut.result.now c.absorb.new.pass c.args.other end c.absorb.ensures.queue c.absorb.ensures.account))

pub returns-clause-changed : goal.returns-clause-changed
returns-clause-changed g c =
    let end = at_place c.args.queues.now c.args.owners.now.items c.args.at c.index-queues-at.result c.index_mut.result.now
    c.requires.owners c.requires.at c.index-queues-at.is c.index_mut.ensures.value in
    let n = as_many c.args.queues.now c.args.owners.now.items c.requires.owners in let at = c.requires.at in
    row_joined c.args.owners.now.items c.args.at c.index-queues-at.result c.index_mut.result.now c.absorb.new.pass c.args.other
    (omega (arith, n, at)) c.index_mut.ensures.value end c.absorb.ensures.queue c.absorb.ensures.account
