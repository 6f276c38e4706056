use Rattle.std.proofs.Common.{◌≡◌, ℕ, length}
use Rattle.line_memory.specs.Marks.{completed_at, mark_count}
use Rattle.line_memory.proofs.pending.Pending.complete.Given as goal

abbrev pub invariant-loop-word : goal.invariant-loop-word
invariant-loop-word l =
    record {
      marks : length l.self ≡ length l.volatile;
      lengths : length l.durable ≡ length l.volatile;
      completed : (k : ℕ) → completed_at l.self l.volatile l.durable k ≡ completed_at l.initial.self l.volatile l.initial.durable k;
    }

abbrev pub decreases-loop-word : goal.decreases-loop-word
decreases-loop-word l = mark_count l.self
