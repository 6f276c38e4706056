use Rattle.tool_run.proofs.PrintLemmas.{part_of_next, at_error}
use Rattle.tool_run.proofs.fault.write_two.Goals as goal

pub returns-clause-err : goal.returns-clause-err
returns-clause-err g c =
    at_error c.write_all-2.result c.write_all-2.ensures.err (λ part. part_of_next _ _ _ _ _ c.in_ok-write_all.ensures.ok part)
