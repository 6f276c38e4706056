use Rattle.std.proofs.Common.{◌≡◌}
use Rattle.std.specs.List.{flat_map, range_with_len}
use Rattle.std.specs.String.{string_bytes}
use Rattle.trace_text.specs.Generated.{request_line, made_request}
use Rattle.trace_text.proofs.generate.gen_text.Given as goal

-- the requests before this one are written
abbrev pub invariant-loop-i : goal.invariant-loop-i
invariant-loop-i l = string_bytes l.text ≡ flat_map (λ i. request_line (made_request l.fn.seed i)) (range_with_len 0 l.i)
