use Rattle.std.proofs.Common.{◌≡◌, ◌++◌, take}
use Rattle.std.specs.List.{flat_map}
use Rattle.std.specs.String.{string_bytes}
use Rattle.tool_run.specs.Making.{class_line, offset_line}
use Rattle.tool_run.proofs.draining.offsets_text.Given as goal

-- the line on the class is written, and the lines of the offsets before this one
abbrev pub invariant-loop-offset : goal.invariant-loop-offset
invariant-loop-offset l = string_bytes l.text ≡ class_line l.number l.offsets ++ flat_map offset_line (take l.offset-index l.offsets)
