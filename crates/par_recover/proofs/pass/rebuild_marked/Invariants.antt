use Rattle.std.proofs.Common.{slice_index}
use Rattle.heap_model.specs.Blocks.{layout_of}
use Rattle.heap_recover.specs.Marked.{IsMarked, GoOnTo}
use Rattle.heap_recover.specs.Rebuilt.{AreDone}
use Rattle.par_recover.proofs.pass.rebuild_marked.Given as goal

abbrev pub invariant-loop-d : goal.invariant-loop-d
invariant-loop-d g l =
    AreDone g.image (slice_index l.words) (IsMarked l.marks.pairs) l.d l.held.items l.roles.items
    × GoOnTo (layout_of g.image) (IsMarked l.marks.pairs) l.d l.end

abbrev pub ghost-survey_marked : goal.ghost-survey_marked
ghost-survey_marked g a = layout_of g.image
