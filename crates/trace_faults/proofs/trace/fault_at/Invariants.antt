use Rattle.std.proofs.Common.{◌≤◌, ◌-◌}
use Rattle.trace_faults.proofs.PassedLemmas.{IsPassed}
use Rattle.trace_faults.proofs.trace.fault_at.Given as goal

-- so many lines were passed over, and no more than there are
abbrev pub invariant-loop-passed : goal.invariant-loop-passed
invariant-loop-passed l = IsPassed l.fn.text l.rest l.passed × (l.passed ≤ l.fn.number)

-- the lines that are still to be passed over
abbrev pub decreases-loop-passed : goal.decreases-loop-passed
decreases-loop-passed l = l.fn.number - l.passed
