use Rattle.std.proofs.Common.{refl}
use Rattle.handing_tests.proofs.QueueLemmas.{with_less}
use Rattle.handing_tests.proofs.queue.try_take.Goals as goal

pub try_pop_as-requires-clause-rule : goal.try_pop_as-requires-clause-rule
try_pop_as-requires-clause-rule g c = λ x items views holds at. (tt, with_less g.J.Run.table items x holds, holds 0 x refl)
