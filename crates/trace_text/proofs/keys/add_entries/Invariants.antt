use Rattle.std.proofs.Common.{◌≡◌, ◌++◌}
use Rattle.std.specs.Prelude.{map}
use Rattle.trace_text.specs.Shown.{shown}
use Rattle.trace_text.proofs.keys.add_entries.Given as goal

abbrev pub invariant-loop-key : goal.invariant-loop-key
invariant-loop-key l = map shown l.entries.items ++ l.key-iterator ≡ map shown l.initial.entries.items ++ l.keys.entries
