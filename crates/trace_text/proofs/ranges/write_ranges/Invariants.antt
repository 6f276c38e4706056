use Rattle.std.proofs.Common.{◌≡◌, ◌++◌, drop}
use Rattle.std.specs.String.{string_bytes}
use Rattle.trace_text.specs.Ranges.{ranges_of}
use Rattle.trace_text.proofs.RunLemmas.{runs_text}
use Rattle.trace_text.proofs.ranges.write_ranges.Given as goal

-- the run that has begun and the runs of the numbers to come are what is left to write
abbrev pub invariant-loop-number : goal.invariant-loop-number
invariant-loop-number l =
    string_bytes l.text ++ runs_text l.first l.last (drop l.number-index l.others) ≡ string_bytes l.initial.text ++ ranges_of l.fn.numbers
