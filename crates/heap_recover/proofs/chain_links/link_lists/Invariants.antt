use Rattle.std.proofs.Common.{slice_index}
use Rattle.heap_recover.specs.Rebuilt.{AreListed}
use Rattle.heap_recover.proofs.chain_links.link_lists.Given as goal

abbrev pub invariant-loop-list : goal.invariant-loop-list
invariant-loop-list l = AreListed (slice_index l.initial.words) (slice_index l.words) l.geometry.capacity l.roles l.list
