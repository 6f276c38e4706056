use Rattle.std.proofs.Common.{slice_index}
use Rattle.heap_model.specs.Blocks.{layout_of}
use Rattle.super_block.specs.Division.{DividesFirst}
use Rattle.super_block.proofs.directory.Directory.of.Given as goal

abbrev pub invariant-loop-d : goal.invariant-loop-d
invariant-loop-d l = DividesFirst (layout_of (slice_index l.words)) l.divisions.items l.d
