use Rattle.std.proofs.Common.{arith, ◌∙◌}
use Rattle.std.proofs.lemmas.Grind.{common_steps}
use Rattle.tool_ports.proofs.Written.{goes_on_range, part_written, some_bytes, at_err}
use Rattle.tool_ports.proofs.sink.write_all.Goals as goal

pub returns-in_err-count-clause-err : goal.returns-in_err-count-clause-err
returns-in_err-count-clause-err g c =
    at_err c.from_residual.result (part_written _ _ _ _ _ c.loop-rest.invariant.written (grind (arith, common_steps)) c.in_err-count.ensures.err)

pub loop-rest-preserved : goal.loop-rest-preserved
loop-rest-preserved g c = record {
  written = goes_on_range _ _ _ _ _ _ _ (omega (arith, c.in_ok-count.ensures.some)) c.loop-rest.invariant.written c.in_ok-count.ensures.ok;
  faults = c.in_ok-count.ensures.cause.steady (λ fails. cc) ∙ c.loop-rest.invariant.faults;
  untouched = λ none. absurd (some_bytes _ _ _ _ c.loop-rest.invariant.written (grind (arith, common_steps)) none);
}
