use Rattle.trace_text.proofs.OrderLemmas.{ready_in_order}
use Rattle.std.proofs.Common.{subst, sym}
use Rattle.trace_text.specs.HeapMap.{AreInOrder}
use Rattle.trace_text.proofs.map.map_lines.Goals as goal

pub map_of_image-requires-clause-in_order : goal.map_of_image-requires-clause-in_order
map_of_image-requires-clause-in_order c =
    subst AreInOrder (sym c.held.ensures.held) (ready_in_order c.args.heap.now.words c.args.heap.now.held c.held.ensures.ready)
