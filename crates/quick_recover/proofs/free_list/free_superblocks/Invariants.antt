use Rattle.std.proofs.Common.{slice_index}
use Rattle.super_block.specs.Links.{link_of}
use Rattle.quick_recover.specs.Anchored.{IsListTo}
use Rattle.quick_recover.proofs.free_list.free_superblocks.Given as goal

abbrev pub invariant-loop-count : goal.invariant-loop-count
invariant-loop-count l = IsListTo (slice_index l.words) l._count (link_of l.next) l.marks
