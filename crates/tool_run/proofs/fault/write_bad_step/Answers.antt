use Rattle.std.proofs.Common.{◌∙◌, ◌++◌, List, ℕ, ap, codes}
use Rattle.tool_ports.specs.Taken.{taken_with}
use Rattle.trace_text.specs.Report.{line_feed}
use Rattle.tool_run.proofs.PrintLemmas.{at_ok, at_error, same_part}
use Rattle.tool_run.proofs.fault.write_bad_step.Goals as goal

pub returns-clause-ok : goal.returns-clause-ok
returns-clause-ok g c =
    at_ok c.write_line.result c.write_line.ensures.ok
    (λ is. is ∙ ap (λ (d : List ℕ). taken_with (g.O.Sink.taken c.args.out.now) (codes "bad schedule line " ++ d ++ line_feed)) c.format.ensures.text)

pub returns-clause-err : goal.returns-clause-err
returns-clause-err g c =
    at_error c.write_line.result c.write_line.ensures.err
    (λ part. same_part _ _ _ _ (ap (λ (d : List ℕ). codes "bad schedule line " ++ d ++ line_feed) c.format.ensures.text) part)
