use Rattle.line_memory.specs.Marks.{CoversGroups, mark_count}
use Rattle.line_memory.proofs.pending.first_marked.Given as goal

abbrev pub invariant-loop-group : goal.invariant-loop-group
invariant-loop-group l = CoversGroups l.marks l.groups

abbrev pub decreases-loop-group : goal.decreases-loop-group
decreases-loop-group l = mark_count l.groups
