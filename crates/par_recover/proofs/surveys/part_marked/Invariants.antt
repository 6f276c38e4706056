use Rattle.heap_recover.specs.Marked.{IsMarked, AreParted}
use Rattle.par_recover.proofs.surveys.part_marked.Given as goal

abbrev pub invariant-loop-index : goal.invariant-loop-index
invariant-loop-index g l = AreParted (IsMarked l.marks.pairs) l.geometry.capacity l.class.number l.d l.index l.held.items l.spares.items
