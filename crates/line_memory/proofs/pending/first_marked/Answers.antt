use Rattle.std.proofs.Common.{◌<◌, sym, subst}
use Rattle.line_memory.specs.Marks.{mark_count}
use Rattle.line_memory.proofs.MarkLemmas.{fewer_marks}
use Rattle.line_memory.proofs.pending.first_marked.Goals as goal

pub loop-group-smaller : goal.loop-group-smaller
loop-group-smaller c =
    subst (λ l. mark_count l < mark_count c.loop-group.groups) (sym c.clear.ensures)
    (fewer_marks c.loop-group.groups c.in-Some.group c.in-Some.ensures.some.0)
