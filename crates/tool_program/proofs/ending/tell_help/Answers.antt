use Rattle.std.proofs.Common.{[], inl, refl}
use Rattle.tool_program.specs.declared.usage.TheConstants.{USAGE}
use Rattle.tool_program.proofs.ending.tell_help.Goals as goal

-- the usage alone
pub returns-in-Err-clause-usage : goal.returns-in-Err-clause-usage
returns-in-Err-clause-usage g c _ = record {
  text = USAGE.now;
  is_help = record { line = []; says = inl refl; is = refl };
  told = c.write_text-in-Err.ensures;
}
