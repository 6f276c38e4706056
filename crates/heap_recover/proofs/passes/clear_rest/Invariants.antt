use Rattle.std.proofs.Common.{slice_index}
use Rattle.heap_recover.specs.Rebuilt.{AreCleared}
use Rattle.heap_recover.proofs.passes.clear_rest.Given as goal

abbrev pub invariant-loop-d : goal.invariant-loop-d
invariant-loop-d l = AreCleared (slice_index l.initial.new) (slice_index l.new) l.geometry.capacity l.used l.d
