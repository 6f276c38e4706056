-- The lines that tell why there is no result.
use Rattle.std.specs.Prelude.{◌≡◌, ◌⊎◌, ℕ, List, ◌++◌, codes, decimal, Option, Some, None}
use Rattle.std.specs.Int.{w64, to_be_bytes}
use Rattle.hex.specs.Hex.{encode_lower}
use Rattle.tool_ports.specs.Causes.{RoseByOne}
use Rattle.tool_ports.specs.Taken.{taken_with, TakesPart}
use Rattle.heap_model.specs.declared.header.BadHeader.{BadHeader}
use Rattle.heap_model.specs.declared.header.BadHeader.TheVariants.{Short, Magic, Version, Capacity, Length, State, Used, Kind}
use Rattle.trace_faults.specs.Texts.{fault_text}
use Rattle.trace_faults.specs.declared.fault.LineFault.{LineFault}
use Rattle.trace_text.specs.Report.{line_feed}

-- the line of status 2
abbrev pub usage_line : List ℕ
usage_line = codes "usage" ++ line_feed

-- that of 3
abbrev pub memory_line : List ℕ
memory_line = codes "out of memory" ++ line_feed

-- that of 4
abbrev pub read_line : List ℕ
read_line = codes "read fault" ++ line_feed

-- that of 5
abbrev pub write_line : List ℕ
write_line = codes "write fault" ++ line_feed

-- the line on an image that isn't there
abbrev pub no_image_line : List ℕ → List ℕ
no_image_line name = codes "no image " ++ name ++ line_feed

-- what is wrong with a header, in a word
abbrev pub cause_name : BadHeader → List ℕ
cause_name Short = codes "short"
cause_name Magic = codes "magic"
cause_name Version = codes "version"
cause_name Capacity = codes "capacity"
cause_name Length = codes "length"
cause_name State = codes "state"
cause_name Used = codes "used"
cause_name Kind = codes "kind"

-- the line on a malformed header
abbrev pub bad_header_line : BadHeader → List ℕ
bad_header_line cause = codes "bad header " ++ cause_name cause ++ line_feed

-- the line on a pointer to no block: the index of its word, and the word in sixteen digits
abbrev pub outside_line : ℕ → ℕ → List ℕ
outside_line at value = codes "pointer outside at " ++ decimal at ++ codes " value " ++ encode_lower (to_be_bytes w64 value) ++ line_feed

-- the line on a shard that has no map: its number, and the index of its first bad word
abbrev pub bad_shard_line : ℕ → ℕ → List ℕ
bad_shard_line shard at = codes "bad shard " ++ decimal shard ++ codes " at " ++ decimal at ++ line_feed

-- the line on the first line of a trace that asks for nothing
abbrev pub bad_line_line : ℕ → List ℕ
bad_line_line line = codes "bad trace line " ++ decimal line ++ line_feed

-- the line on the first line of a schedule that tells no step
abbrev pub bad_step_line : ℕ → List ℕ
bad_step_line line = codes "bad schedule line " ++ decimal line ++ line_feed

-- the line on a trace or a schedule of too many bytes
abbrev pub too_long_line : List ℕ
too_long_line = codes "bad trace too long" ++ line_feed

-- the line on why that line of a trace asks for nothing, for the standard error
abbrev pub explained_line : ℕ → LineFault → List ℕ
explained_line line cause = codes "heap_tool: trace line " ++ decimal line ++ codes ": " ++ fault_text cause ++ line_feed

-- A sink took the line, and the count of its failures stood; or the count rose by one, and it took a first part of it.
abbrev pub Tells : List ℕ → ℕ → ℕ → Option (List ℕ) → Option (List ℕ) → Type 0
Tells line faults faults' taken taken' =
    ((taken' ≡ taken_with taken line) × (faults' ≡ faults)) ⊎ (RoseByOne faults faults' × TakesPart line taken taken')

-- a sink was told this line; or there is none, and it is as it was
abbrev pub Explains : {H : Type 0} → (H → ℕ) → (H → Option (List ℕ)) → H → H → Option (List ℕ) → Type 0
Explains faults taken old new None = new ≡ old
Explains faults taken old new (Some line) = Tells line (faults old) (faults new) (taken old) (taken new)
