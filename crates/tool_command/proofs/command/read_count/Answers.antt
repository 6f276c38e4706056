use Rattle.tool_command.proofs.CommandLemmas.{text_is, flag_is}
use Rattle.tool_command.proofs.TakenLemmas.{count_asked}
use Rattle.tool_command.proofs.command.read_count.Goals as goal

pub text_of-image-requires : goal.text_of-image-requires
text_of-image-requires c =
    let asked = count_asked c.requires.0 c.requires.1 in
    (asked.0, rw c.requires.2.rows_are asked.2.named)

pub returns : goal.returns
returns c words taken matched =
    let asked = count_asked words taken in
    let named = text_is _ words _ matched _ _ _ c.text_of-image.ensures asked.2.named in
    let mapped = flag_is _ words _ matched _ _ _ c.has_flag-with_map.ensures asked.2.mapped in
    rw (named, mapped) asked.2
