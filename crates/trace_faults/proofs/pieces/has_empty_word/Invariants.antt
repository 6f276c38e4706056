use Rattle.std.proofs.Common.{◌↔◌, [], length, Contains}
use Rattle.trace_faults.specs.Faults.{words_of}
use Rattle.trace_faults.proofs.pieces.has_empty_word.Given as goal

-- the words that are left decide
abbrev pub invariant-loop-word : goal.invariant-loop-word
invariant-loop-word l = Contains (words_of l.fn.line) [] ↔ Contains (words_of l.rest) []

-- the bytes that are left
abbrev pub decreases-loop-word : goal.decreases-loop-word
decreases-loop-word l = length l.rest
