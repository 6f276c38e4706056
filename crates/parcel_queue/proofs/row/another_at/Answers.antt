use Rattle.std.proofs.Common.{arith}
use Rattle.parcel_queue.proofs.HandLemmas.{in_row, at_owner, gave, was_made}
use Rattle.parcel_queue.proofs.row.another_at.Goals as goal

pub index_mut-requires : goal.index_mut-requires
index_mut-requires g c = let inside = (in_row c.args.queues.now c.args.owners.now.items c.args.at c.requires.owner).1 in
    let ok = c.args.owners.now.ok in omega (arith, inside, ok)

pub another-requires-clause-queue : goal.another-requires-clause-queue
another-requires-clause-queue g c = (at_owner c.args.queues.now c.args.owners.now.items c.args.at c.index-queues-at.result c.index_mut.result.now
    c.requires.owner c.index-queues-at.is c.index_mut.ensures.value).same

pub another-requires-clause-parts : goal.another-requires-clause-parts
another-requires-clause-parts g c = (at_owner c.args.queues.now c.args.owners.now.items c.args.at c.index-queues-at.result c.index_mut.result.now
    c.requires.owner c.index-queues-at.is c.index_mut.ensures.value).more

pub returns-clause-changed : goal.returns-clause-changed
returns-clause-changed g c =
    let own = at_owner c.args.queues.now c.args.owners.now.items c.args.at c.index-queues-at.result c.index_mut.result.now
    c.requires.owner c.index-queues-at.is c.index_mut.ensures.value in
    gave c.args.owners.now.items c.args.at c.index-queues-at.result c.index_mut.result.now c.another.new.pass
    (in_row c.args.queues.now c.args.owners.now.items c.args.at c.requires.owner).1 c.index_mut.ensures.value own
    c.another.ensures.queue.0 c.another.ensures.left

pub returns-clause-pass : goal.returns-clause-pass
returns-clause-pass g c =
    let own = at_owner c.args.queues.now c.args.owners.now.items c.args.at c.index-queues-at.result c.index_mut.result.now
    c.requires.owner c.index-queues-at.is c.index_mut.ensures.value in
    was_made c.args.owners.now.items c.args.at c.index-queues-at.result c.index_mut.result.now c.another.result
    (in_row c.args.queues.now c.args.owners.now.items c.args.at c.requires.owner).1 c.index_mut.ensures.value own
    c.another.ensures.queue.1 c.another.ensures.fresh
