use Rattle.std.proofs.Common.{◌∙◌, arith}
use Rattle.tool_command.proofs.CommandLemmas.{text_is, number_is}
use Rattle.tool_command.proofs.TakenLemmas.{drain_asked}
use Rattle.tool_command.proofs.command.read_drain.Goals as goal

pub text_of-image-requires : goal.text_of-image-requires
text_of-image-requires c =
    let asked = drain_asked c.requires.0 c.requires.1 in
    (asked.0, rw c.requires.2.rows_are asked.2.named)

pub number_of-requires : goal.number_of-requires
number_of-requires c =
    let asked = drain_asked c.requires.0 c.requires.1 in
    (asked.1, rw c.requires.2.rows_are asked.2.counted, omega (arith, asked.2.is_class.last))

pub overflow_cast-number_of : goal.overflow_cast-number_of
overflow_cast-number_of c =
    let asked = drain_asked c.requires.0 c.requires.1 in
    let same = number_is _ _ _ c.requires.2 _ _ _ c.number_of.ensures asked.2.counted in
    omega (arith, same, asked.2.is_class.last)

pub new-class-requires : goal.new-class-requires
new-class-requires c =
    let asked = drain_asked c.requires.0 c.requires.1 in
    let same = number_is _ _ _ c.requires.2 _ _ _ c.number_of.ensures asked.2.counted in
    rw same asked.2.is_class

pub returns : goal.returns
returns c words taken matched =
    let asked = drain_asked words taken in
    let named = text_is _ words _ matched _ _ _ c.text_of-image.ensures asked.2.named in
    let counted = c.new-class.ensures ∙ number_is _ words _ matched _ _ _ c.number_of.ensures asked.2.counted in
    rw (named, counted) asked.2
