use Rattle.std.proofs.Common.{◌≡◌, true, false}
use Rattle.trace_text.proofs.NumberLemmas.{number_is_text}
use Rattle.trace_faults.proofs.NumberFaultLemmas.{numeral_number}
use Rattle.trace_faults.proofs.number.fits.Goals as goal

pub returns-in-Err : goal.returns-in-Err
returns-in-Err c = (
  λ never. let no : false ≡ true = never in cc,
  λ fits. absurd (c.in-Err.ensures.cases.0
      (number_is_text c.args.word.now _ (numeral_number c.args.word.now c.requires.digits c.requires.no_zero fits))),
)
