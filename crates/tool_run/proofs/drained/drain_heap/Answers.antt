use Rattle.block_heap.proofs.ReopenLemmas.{opened_drainable}
use Rattle.tool_run.proofs.OpenedLemmas.{given_opened}
use Rattle.tool_run.proofs.drained.drain_heap.Goals as goal

pub returns-in-Ok : goal.returns-in-Ok
returns-in-Ok g c =
    given_opened c.args.heap.words c.args.heap.held _ c.in_ok-heap.heap c.in_ok-heap.ensures c.args.class.number _
    (c.in-Ok.ensures.ok (opened_drainable c.args.heap.words c.args.heap.held _ c.in_ok-heap.heap c.in_ok-heap.ensures c.args.class.number c.requires))
