use Rattle.std.proofs.Common.{◌+◌, [], arith}
use Rattle.trace_text.specs.Generated.{request_line, made_request}
use Rattle.trace_text.proofs.TextLemmas.{line_more}
use Rattle.trace_text.proofs.generate.gen_text.Goals as goal

pub loop-i-preserved : goal.loop-i-preserved
loop-i-preserved c =
    line_more (λ i. request_line (made_request c.args.seed i)) 0 c.loop-i.i (c.loop-i.i + 1) c.loop-i.i [] _ _ (omega arith)
    (omega arith) c.loop-i.invariant
    c.in_ok-write_made.ensures.ok
