use Rattle.std.proofs.Common.{◌<◌, sym, subst}
use Rattle.parcel_queue.specs.Account.{Account, QueueView}
use Rattle.parcel_queue.specs.Row.{IsPassOf}
use Rattle.parcel_tests.proofs.exchange.collect.Goals as goal

pub returns-clause-owners : goal.returns-clause-owners
returns-clause-owners g c =
    let end = c.each_pass_of_a_row_is_to_its_queue.ensures.each c.args.queues.now c.args.owners.now.items c.args.at c.index-queues-at.result
    c.index_mut.result.now c.requires.owners c.requires.at c.index-queues-at.is c.index_mut.ensures.value in
    c.each_pass_of_a_row_is_to_its_queue.ensures.kept c.args.queues.now c.args.owners.now.items c.args.at c.index-queues-at.result c.take_all.new.pass
    c.requires.owners c.requires.at (subst (λ (q : QueueView). IsPassOf q c.take_all.new.pass) c.index-queues-at.is (record {
      same = c.take_all.ensures.queue;
      more = subst (λ (a : Account _). 0 < a.parts) (sym c.take_all.ensures.taken.account) end.more;
    }))
