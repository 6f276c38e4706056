use Rattle.std.proofs.Common.{◌∙◌, ap}
use Rattle.trace_text.specs.Lines.{lines_of}
use Rattle.trace_text.proofs.LineLemmas.{lines_of-ended, lines_of-last}
use Rattle.trace_faults.proofs.WordListLemmas.{not_empty}
use Rattle.trace_faults.proofs.pieces.first_line.Goals as goal

pub returns-in-Some : goal.returns-in-Some
returns-in-Some c some = ap lines_of c.in-Some.ensures.some ∙ lines_of-ended _ _ c.in-Some.ensures.first

pub returns-in-None : goal.returns-in-None
returns-in-None c some = lines_of-last c.args.text.now (not_empty c.args.text.now some) c.in-None.ensures.none
