use Rattle.std.proofs.Common.{◌↔◌, length}
use Rattle.std.specs.Str.Parse.{AllDigits}
use Rattle.trace_faults.proofs.number.are_digits.Given as goal

-- those that are left decide
abbrev pub invariant-loop-rest : goal.invariant-loop-rest
invariant-loop-rest l = AllDigits 10 l.fn.word ↔ AllDigits 10 l.rest

-- the bytes that are left
abbrev pub decreases-loop-rest : goal.decreases-loop-rest
decreases-loop-rest l = length l.rest
