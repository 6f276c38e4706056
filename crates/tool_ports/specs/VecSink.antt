-- What a sink in memory has taken, how much it takes, and which of its calls fail.
use Rattle.std.specs.Prelude.{◌≡◌, ◌⊎◌, ℕ, ◌-◌, List, length, Contains}
use Rattle.tool_ports.specs.Causes.{one_more}
use Rattle.tool_ports.specs.declared.vec_sink.VecSink.{VecSink}

-- the bytes that it has taken
abbrev pub bytes_of : VecSink → List ℕ
bytes_of sink = sink.bytes.items

-- how many of its calls have failed
abbrev pub fault_count : VecSink → ℕ
fault_count sink = sink.faults.count

-- the numbers of the calls that are to fail
abbrev pub failing_numbers : VecSink → List ℕ
failing_numbers sink = sink.failing.numbers.items

-- the number of the next call
abbrev pub next_number : VecSink → ℕ
next_number sink = sink.failing.next

-- how many bytes it takes by one call
abbrev pub most_of : VecSink → ℕ
most_of sink = sink.most

-- how many bytes it has room for in all
abbrev pub room_of : VecSink → ℕ
room_of sink = sink.room

-- how many bytes more it has room for
abbrev pub room_left : VecSink → ℕ
room_left sink = room_of sink - length (bytes_of sink)

-- the next call is to fail, or there is no room left for a byte
abbrev pub IsToFail : VecSink → Type 0
IsToFail sink = Contains (failing_numbers sink) (next_number sink) ⊎ (room_left sink ≡ 0)

-- one call further on, with the same list of failures and the same bounds
pub record IsOneCallOn (old new : VecSink) : Type 0 where
  pub next : next_number new ≡ one_more (next_number old)
  pub numbers : failing_numbers new ≡ failing_numbers old
  pub most : most_of new ≡ most_of old
  pub room : room_of new ≡ room_of old
