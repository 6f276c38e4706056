use Rattle.std.proofs.Common.{slice_index}
use Rattle.heap_model.specs.Blocks.{layout_of}
use Rattle.heap_recover.specs.Marked.{IsMarked, GoOnTo}
use Rattle.heap_recover.specs.Rebuilt.{AreDone}
use Rattle.heap_recover.proofs.passes.rebuild_taken.Given as goal

abbrev pub invariant-loop-d : goal.invariant-loop-d
invariant-loop-d g l =
    AreDone g.image (slice_index l.words) (IsMarked l.marks.pairs) l.d l.held.items l.roles.items
    × GoOnTo (layout_of g.image) (IsMarked l.marks.pairs) l.d l.end

abbrev pub ghost-survey_superblock : goal.ghost-survey_superblock
ghost-survey_superblock g a = layout_of g.image
