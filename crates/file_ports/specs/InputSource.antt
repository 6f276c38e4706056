-- What the tool's input has counted, and what it tells.
use Rattle.std.specs.Prelude.{ℕ, List, Option, None}
use Rattle.file_ports.specs.declared.input_source.InputSource.{InputSource}

-- how many of its calls have failed
abbrev pub fault_count : {R : Type 0} → InputSource R → ℕ
fault_count source = source.faults.count

-- what it has left: it doesn't tell
abbrev pub left_of : {R : Type 0} → InputSource R → Option (List ℕ)
left_of source = None
