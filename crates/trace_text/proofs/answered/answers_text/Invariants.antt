use Rattle.std.proofs.Common.{◌≡◌, take}
use Rattle.std.specs.String.{string_bytes}
use Rattle.trace_text.specs.Answered.{answers_text_of}
use Rattle.trace_text.proofs.answered.answers_text.Given as goal

-- the answers before this one are written
abbrev pub invariant-loop-answer : goal.invariant-loop-answer
invariant-loop-answer l = string_bytes l.text ≡ answers_text_of (take l.answer-index l.answers)
