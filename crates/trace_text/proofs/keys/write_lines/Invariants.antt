use Rattle.std.proofs.Common.{◌≡◌, ◌++◌, take}
use Rattle.std.specs.Prelude.{map}
use Rattle.std.specs.List.{flat_map}
use Rattle.std.specs.String.{string_bytes}
use Rattle.trace_text.specs.Keys.{key_line}
use Rattle.trace_text.specs.Shown.{shown}
use Rattle.trace_text.proofs.keys.write_lines.Given as goal

abbrev pub invariant-loop-key : goal.invariant-loop-key
invariant-loop-key l = string_bytes l.text ≡ string_bytes l.initial.text ++ flat_map key_line (map shown (take l.key-index l.entries))
