use Rattle.std.proofs.Common.{◌≡◌, ◌-◌, ◌++◌}
use Rattle.std.specs.List.{flat_map, range_with_len}
use Rattle.std.specs.String.{string_bytes}
use Rattle.trace_text.specs.Report.{large_line}
use Rattle.trace_text.proofs.report.write_large_lines.Given as goal

-- the lines of the smaller blocks are written
abbrev pub invariant-loop-superblocks : goal.invariant-loop-superblocks
invariant-loop-superblocks l = string_bytes l.text ≡ string_bytes l.initial.text ++ flat_map (large_line l.large.items)
    (range_with_len 1 (l.superblocks - 1))
