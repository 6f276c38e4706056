use Rattle.std.proofs.Common.{length, ap, sym, ◌∙◌}
use Rattle.bit_marks.proofs.MarkLemmas.{length_marks}
use Rattle.bit_marks.proofs.marks.BitMarks.len.Goals as goal

pub returns : goal.returns
returns c = sym (length_marks c.self.inside.words.items 0 c.self.inside.below) ∙ ap length c.self.view_is
