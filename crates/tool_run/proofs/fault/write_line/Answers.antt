use Rattle.std.proofs.Common.{◌∙◌, ap}
use Rattle.tool_ports.specs.Taken.{taken_with}
use Rattle.tool_run.proofs.PrintLemmas.{part_of_next, at_error, same_both}
use Rattle.tool_run.proofs.fault.write_line.Goals as goal

pub returns-clause-err : goal.returns-clause-err
returns-clause-err g c =
    let first = c.in_ok-write_two.ensures.ok ∙ ap (taken_with (g.O.Sink.taken c.args.out.now))
    (same_both _ _ _ _ c.as_bytes.ensures.value c.as_bytes-2.ensures.value) in
    at_error c.write_all.result c.write_all.ensures.err (λ part. part_of_next _ _ _ _ _ first part)
