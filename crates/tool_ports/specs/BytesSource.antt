-- What a source in memory has left, how much it gives, and which of its calls fail.
use Rattle.std.specs.Prelude.{◌≡◌, ℕ, List, drop, Contains}
use Rattle.tool_ports.specs.Causes.{one_more}
use Rattle.tool_ports.specs.declared.bytes_source.BytesSource.{BytesSource}

-- the bytes that it has left
abbrev pub bytes_left : BytesSource → List ℕ
bytes_left source = drop source.given source.bytes.items

-- how many of its calls have failed
abbrev pub fault_count : BytesSource → ℕ
fault_count source = source.faults.count

-- the numbers of the calls that are to fail
abbrev pub failing_numbers : BytesSource → List ℕ
failing_numbers source = source.failing.numbers.items

-- the number of the next call
abbrev pub next_number : BytesSource → ℕ
next_number source = source.failing.next

-- how many bytes it gives by one call
abbrev pub most_of : BytesSource → ℕ
most_of source = source.most

-- the next call is to fail
abbrev pub IsToFail : BytesSource → Type 0
IsToFail source = Contains (failing_numbers source) (next_number source)

-- one call further on, with the same list of failures and the same bound
pub record IsOneCallOn (old new : BytesSource) : Type 0 where
  pub next : next_number new ≡ one_more (next_number old)
  pub numbers : failing_numbers new ≡ failing_numbers old
  pub most : most_of new ≡ most_of old
