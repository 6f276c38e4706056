use Rattle.std.proofs.Common.{◌∙◌, ap, rules}
use Rattle.trace_text.specs.Lines.{lines_of}
use Rattle.trace_text.proofs.LineLemmas.{lines_of-ended, lines_of-last}
use Rattle.trace_text.proofs.pieces.next_line.Goals as goal

pub returns-in-Some-clause-some : goal.returns-in-Some-clause-some
returns-in-Some-clause-some c = ap lines_of c.in-Some.ensures.some ∙ lines_of-ended _ _ c.in-Some.ensures.first

pub returns-in-None-clause-some : goal.returns-in-None-clause-some
returns-in-None-clause-some c = lines_of-last c.args.text.now (search rules) c.in-None.ensures.none
