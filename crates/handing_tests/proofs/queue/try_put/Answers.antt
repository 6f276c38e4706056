use Rattle.handing_tests.proofs.QueueLemmas.{with_more}
use Rattle.handing_tests.proofs.queue.try_put.Goals as goal

pub try_push_as-requires-clause-rule : goal.try_push_as-requires-clause-rule
try_push_as-requires-clause-rule g c = λ items views room holds at.
    (tt, with_more g.J.Run.table items c.args.carrier holds c.requires.of, c.requires.of)
