use Rattle.std.proofs.Common.{◌≡◌, ◌-◌, ◌++◌}
use Rattle.std.specs.List.{flat_map, range_with_len}
use Rattle.std.specs.String.{string_bytes}
use Rattle.trace_text.specs.Report.{class_line}
use Rattle.trace_text.proofs.report.write_class_lines.Given as goal

-- the lines of the classes before this one are written
abbrev pub invariant-loop-class : goal.invariant-loop-class
invariant-loop-class l = string_bytes l.text ≡ string_bytes l.initial.text ++ flat_map (class_line l.held) (range_with_len 1 (l.class - 1))
