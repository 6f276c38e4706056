use Rattle.std.proofs.Common.{◌+◌, ◌≤◌, length}
use Rattle.std.specs.Vec.{vec_len, vec_capacity}
use Rattle.trace_text.specs.Lines.{lines_of}
use Rattle.trace_text.specs.Schedule.{IsStepLine}
use Rattle.trace_text.proofs.WrittenLemmas.{IsReadUpTo}
use Rattle.trace_text.proofs.schedule.parse_steps.Given as goal

-- and there is room for what is left
abbrev pub invariant-loop-line : goal.invariant-loop-line
invariant-loop-line l =
    IsReadUpTo (IsStepLine l.seats) l.fn.text l.rest l.steps.items × (vec_len l.steps + length (lines_of l.rest) ≤ vec_capacity l.steps)

-- the bytes that are left
abbrev pub decreases-loop-line : goal.decreases-loop-line
decreases-loop-line l = length l.rest
