-- Traces made of a number of requests and a seed, and how a trace is printed.
use Rattle.std.specs.Prelude.{ℕ, ◌<◌, ◌≤◌, ◌+◌, ◌*◌, ◌^◌, ◌/◌, ◌%◌, ◌==◌, nat_le, if◌then◌else◌, List, ◌++◌, length, codes, decimal, map}
use Rattle.std.specs.List.{flat_map, range_with_len}
use Rattle.hex.specs.Hex.{IsBytes}
use Rattle.trace_text.specs.declared.request.Request.{Request}
use Rattle.trace_text.specs.declared.request.Request.TheVariants.{Put, Get, Del, Move}
use Rattle.trace_text.specs.Report.{line_feed}
use Rattle.trace_text.specs.Trace.{longest_value}
use Rattle.trace_text.specs.Values.{value_word}

-- a request in a line
abbrev pub request_line : Request → List ℕ
request_line (Put key value) = codes "put " ++ decimal key ++ codes " " ++ value_word value ++ line_feed
request_line (Get key) = codes "get " ++ decimal key ++ line_feed
request_line (Del key) = codes "del " ++ decimal key ++ line_feed
request_line (Move key to) = codes "move " ++ decimal key ++ codes " " ++ decimal to ++ line_feed

-- a request that a trace can ask for
abbrev pub IsWithinBounds : Request → Type 0
IsWithinBounds (Put key value) = (key < 2 ^ 64) × IsBytes value × (length value ≤ longest_value)
IsWithinBounds (Get key) = key < 2 ^ 64
IsWithinBounds (Del key) = key < 2 ^ 64
IsWithinBounds (Move key to) = (key < 2 ^ 64) × (to < 2 ^ 64)

-- the number that request i is made of
abbrev pub number_of : ℕ → ℕ → ℕ
number_of seed i = (40503 * i + 977 * seed) % (2 ^ 16)

-- fewer than 131 bytes that count up from the number
abbrev pub value_of : ℕ → List ℕ
value_of number = map (λ j. (number + j) % 256) (range_with_len 0 (number % 131))

-- of four requests two are puts, then come a get and a del
abbrev pub request_of : ℕ → ℕ → Request
request_of number i =
    if nat_le (i % 4) 1 then Put (number / 16) (value_of number)
    else if i % 4 == 2 then Get (number / 16)
    else Del (number / 16)

-- request i of the seed
abbrev pub made_request : ℕ → ℕ → Request
made_request seed i = request_of (number_of seed i) i

-- the first n requests of the seed, one a line
abbrev pub made_trace : ℕ → ℕ → List ℕ
made_trace n seed = flat_map (λ i. request_line (made_request seed i)) (range_with_len 0 n)
