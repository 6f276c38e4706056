use Rattle.std.proofs.Common.{[], refl, arith}
use Rattle.heap_table.proofs.DealLemmas.{entered}
use Rattle.heap_table.proofs.closing.fresh_seat.Goals as goal

pub load_new_seat-seat-requires : goal.load_new_seat-seat-requires
load_new_seat-seat-requires c = (
  (let i = c.shared.invariant in omega (arith, i)),
  λ s holds long fits. ([], entered c.shared.inside.table.shared.key s.words s.views holds, refl),
)
