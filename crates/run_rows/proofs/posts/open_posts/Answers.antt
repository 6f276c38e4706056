use Rattle.std.proofs.Common.{[], ◌∷◌, length, ap, arith, ◌∙◌}
use Rattle.std.proofs.lemmas.List.{length-append}
use Rattle.run_rows.proofs.PostLemmas.{opened_all, opened_more}
use Rattle.run_rows.proofs.posts.open_posts.Goals as goal

pub loop-worker-preserved : goal.loop-worker-preserved
loop-worker-preserved g c =
    let was = c.loop-worker.invariant in
    let queues = c.loop-worker.queues.items in
    let owners = c.loop-worker.owners.items in
    let queue = c.in_ok-queue.queue in
    let owner = c.in_ok-queue.owner in
    let queues_is = c.push_reserved.ensures.items in
    let owners_is = c.push_reserved-in-loop-worker.ensures.items in
    record {
      opened = opened_more queues c.push_reserved.new.self.items owners c.push_reserved-in-loop-worker.new.self.items queue owner was.opened
          c.in_ok-queue.ensures.queue c.in_ok-queue.ensures.account
          queues_is owners_is;
      queues_long = let long = ap length queues_is ∙ length-append queues (queue ∷ []) in let n = was.queues_long in omega (arith, long, n);
      owners_long = let long = ap length owners_is ∙ length-append owners (owner ∷ []) in let n = was.owners_long in omega (arith, long, n);
      queues_room = let same = c.push_reserved.ensures.capacity in let room = was.queues_room in omega (arith, same, room);
      owners_room = let same = c.push_reserved-in-loop-worker.ensures.capacity in let room = was.owners_room in omega (arith, same, room);
    }

pub returns-clause-owners : goal.returns-clause-owners
returns-clause-owners g c = opened_all c.loop-worker.queues.items c.loop-worker.owners.items c.loop-worker.invariant.opened
