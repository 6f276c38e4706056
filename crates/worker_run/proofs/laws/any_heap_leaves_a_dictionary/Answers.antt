use Rattle.worker_run.proofs.ProgressLemmas.{left_answered, left_stopped, left_others}
use Rattle.worker_run.proofs.laws.any_heap_leaves_a_dictionary.Goals as goal

pub returns-clause-maps : goal.returns-clause-maps
returns-clause-maps g c = λ s image left rs all has may.
    left_answered image rs (g.H.HeapSeat.view s) left (g.met.H.HeapSeat.seat s) all has (g.met.H.HeapSeat.mixed s left may)
    (g.met.H.HeapSeat.named s left may) (g.met.H.HeapSeat.stored_kinds s left may)

pub returns-clause-stopped : goal.returns-clause-stopped
returns-clause-stopped g c = λ s t image left rs request others all has change may.
    left_stopped image rs (g.H.HeapSeat.view s) (g.H.HeapSeat.view t) request (g.met.H.HeapSeat.seat s) has change left others all
    (g.met.H.HeapSeat.seat t)
    (g.met.H.HeapSeat.mixed t left may) (g.met.H.HeapSeat.named t left may) (g.met.H.HeapSeat.stored_kinds t left may)

pub returns-clause-others : goal.returns-clause-others
returns-clause-others g c = λ s image left all stands may.
    left_others image (g.H.HeapSeat.view s) left (g.met.H.HeapSeat.seat s) all stands (g.met.H.HeapSeat.mixed s left may)
    (g.met.H.HeapSeat.named s left may) (g.met.H.HeapSeat.stored_kinds s left may)
