use denote.Text.{Utf8}
use denote.Shadow.{shadow}
use Rattle.tool_run_tests.proofs.session.behind_turn.Given as goal

-- what is left is text
abbrev pub invariant-loop-line : goal.invariant-loop-line
invariant-loop-line l = shadow (Utf8 l.left)
