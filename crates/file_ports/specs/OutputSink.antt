-- What the tool's output has counted, and what it tells.
use Rattle.std.specs.Prelude.{ℕ, List, Option, None}
use Rattle.file_ports.specs.declared.output_sink.OutputSink.{OutputSink}

-- how many of its calls have failed
abbrev pub fault_count : {W : Type 0} → OutputSink W → ℕ
fault_count sink = sink.faults.count

-- what it has taken: it doesn't tell
abbrev pub taken_of : {W : Type 0} → OutputSink W → Option (List ℕ)
taken_of sink = None
