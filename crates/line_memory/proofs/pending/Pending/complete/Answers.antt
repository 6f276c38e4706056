use Rattle.std.proofs.Common.{◌<◌, sym, subst}
use Rattle.line_memory.specs.Marks.{mark_count}
use Rattle.line_memory.proofs.MarkLemmas.{fewer_marks}
use Rattle.line_memory.proofs.pending.Pending.complete.Goals as goal

pub loop-word-smaller : goal.loop-word-smaller
loop-word-smaller c = let gone = c.in-Some.ensures.some in
    subst (λ l. mark_count l < mark_count c.loop-word.self) (sym gone.1) (fewer_marks c.loop-word.self c.in-Some.word gone.0)
