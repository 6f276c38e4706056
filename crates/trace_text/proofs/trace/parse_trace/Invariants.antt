use Rattle.std.proofs.Common.{◌+◌, ◌≤◌, length}
use Rattle.std.specs.Vec.{vec_len, vec_capacity}
use Rattle.trace_text.specs.Lines.{lines_of}
use Rattle.trace_text.specs.Trace.{IsLine}
use Rattle.trace_text.proofs.WrittenLemmas.{IsReadUpTo}
use Rattle.trace_text.proofs.trace.parse_trace.Given as goal

-- and there is room for what is left
abbrev pub invariant-loop-line : goal.invariant-loop-line
invariant-loop-line l = IsReadUpTo IsLine l.fn.text l.rest l.requests.items × (vec_len l.requests + length (lines_of l.rest) ≤ vec_capacity l.requests)

-- the bytes that are left
abbrev pub decreases-loop-line : goal.decreases-loop-line
decreases-loop-line l = length l.rest
