use Rattle.std.proofs.Common.{◌≡◌, ◌+◌, ◌≤◌, length}
use Rattle.trace_text.specs.Lines.{lines_of}
use Rattle.trace_text.proofs.pieces.count_lines.Given as goal

-- the lines so far and those that are left; and each has a byte or more
abbrev pub invariant-loop-after : goal.invariant-loop-after
invariant-loop-after l = (l.lines + length (lines_of l.rest) ≡ length (lines_of l.fn.text)) × (l.lines + length l.rest ≤ length l.fn.text)

-- the bytes that are left
abbrev pub decreases-loop-after : goal.decreases-loop-after
decreases-loop-after l = length l.rest
