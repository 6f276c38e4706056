use Rattle.std.proofs.Common.{◌∙◌, codes, decimal, refl}
use Rattle.trace_faults.specs.Texts.{fault_text}
use Rattle.trace_text.specs.Report.{line_feed}
use Rattle.tool_run.proofs.PrintLemmas.{in_first_pair, in_second_pair, in_end, all_taken, at_error, at_ok}
use Rattle.tool_ports.proofs.Written.{at_err}
use Rattle.tool_run.proofs.fault.write_explained.Goals as goal

pub returns-in_err-write_two-clause-err : goal.returns-in_err-write_two-clause-err
returns-in_err-write_two-clause-err g c =
    let number = c.as_bytes.ensures.value ∙ c.format.ensures.text in
    at_err c.from_residual.result (in_first_pair (codes "heap_tool: trace line ") (decimal c.args.line) _ (codes ": ") (fault_text c.args.cause)
    (fault_text c.args.cause) line_feed _ (g.O.Sink.taken c.args.out.now) (g.O.Sink.taken c.args.out.now) _ number refl c.in_err-write_two.ensures.err)

pub returns-in_err-write_two-2-clause-err : goal.returns-in_err-write_two-2-clause-err
returns-in_err-write_two-2-clause-err g c =
    let number = c.as_bytes.ensures.value ∙ c.format.ensures.text in
    let place = c.as_bytes-2.ensures.value ∙ c.text.ensures in
    at_err c.from_residual-in_err-write_two-2.result (in_second_pair (codes "heap_tool: trace line ") (decimal c.args.line) _ (codes ": ") (fault_text c.args.cause)
    _ line_feed _ (g.O.Sink.taken c.write_two.new.out) (g.O.Sink.taken c.args.out.now)
    _ number place c.in_ok-write_two.ensures.ok c.in_err-write_two-2.ensures.err)

pub returns-clause-ok : goal.returns-clause-ok
returns-clause-ok g c =
    let number = c.as_bytes.ensures.value ∙ c.format.ensures.text in
    let place = c.as_bytes-2.ensures.value ∙ c.text.ensures in
    at_ok c.write_all.result c.write_all.ensures.ok (λ third. all_taken (codes "heap_tool: trace line ") (decimal c.args.line) _ (codes ": ") (fault_text c.args.cause)
    _ line_feed _ (g.O.Sink.taken c.write_two.new.out) (g.O.Sink.taken c.write_two-2.new.out)
    _ number place c.in_ok-write_two.ensures.ok c.in_ok-write_two-2.ensures.ok third)

pub returns-clause-err : goal.returns-clause-err
returns-clause-err g c =
    let number = c.as_bytes.ensures.value ∙ c.format.ensures.text in
    let place = c.as_bytes-2.ensures.value ∙ c.text.ensures in
    at_error c.write_all.result c.write_all.ensures.err (λ part. in_end (codes "heap_tool: trace line ") (decimal c.args.line) _ (codes ": ") (fault_text c.args.cause)
    _ line_feed _ (g.O.Sink.taken c.write_two.new.out) (g.O.Sink.taken c.write_two-2.new.out)
    _ number place c.in_ok-write_two.ensures.ok c.in_ok-write_two-2.ensures.ok part)
