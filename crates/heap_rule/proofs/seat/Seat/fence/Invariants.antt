use Rattle.std.proofs.Common.{List, ℕ}
use Rattle.line_memory.specs.Marks.{mark_count}
use Rattle.heap_rule.specs.Seated.{IsSeatOf}
use Rattle.heap_rule.proofs.FenceLemmas.{IsRow}
use Rattle.heap_rule.proofs.seat.Seat.fence.Given as goal

abbrev pub invariant-loop-word : goal.invariant-loop-word
invariant-loop-word l = record {
  seat : IsSeatOf l.shared l.self;
  row : (words : List ℕ) × IsRow l.initial.self l.self words;
}

abbrev pub decreases-loop-word : goal.decreases-loop-word
decreases-loop-word l = mark_count l.self.marks
