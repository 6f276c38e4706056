use Rattle.std.proofs.Common.{◌∙◌}
use Rattle.post_tests.proofs.FirstLemmas.{new_pair}
use Rattle.post_tests.proofs.early.run_over.Goals as goal

pub send_and_take-requires-clause-passes : goal.send_and_take-requires-clause-passes
send_and_take-requires-clause-passes g c κs within =
    let first = c.in_ok-first.first in
    let second = c.in_ok-second.second in
    let one = c.another.ensures in
    let two = c.another-2.ensures in
    let queues_are = c.deref.ensures.value ∙ c.in_ok-queues.ensures.items in
    new_pair first second c.another.result c.another-2.result one.queue.1 one.fresh two.queue.1 two.fresh
    c.deref.result.now c.in_ok-passes.passes.items queues_are c.in_ok-passes.ensures.items
