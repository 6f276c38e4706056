use Rattle.std.proofs.Common.{◌≡◌}
use Rattle.line_memory.specs.View.{word_count}
use Rattle.line_memory.specs.Plain.{view_of}
use Rattle.base_tests.proofs.plain_memory.take_all.Given as goal

abbrev pub invariant-loop-step : goal.invariant-loop-step
invariant-loop-step g l = word_count (view_of l.memory) ≡ 20
