use Rattle.tool_command.proofs.CommandLemmas.{text_is, flag_is}
use Rattle.tool_command.proofs.TakenLemmas.{show_asked}
use Rattle.tool_command.proofs.command.read_show.Goals as goal

pub text_of-image-requires : goal.text_of-image-requires
text_of-image-requires c =
    let asked = show_asked c.requires.0 c.requires.1 in
    (asked.0, rw c.requires.2.rows_are asked.3.named)

pub returns : goal.returns
returns c words taken matched =
    let asked = show_asked words taken in
    let named = text_is _ words _ matched _ _ _ c.text_of-image.ensures asked.3.named in
    let mapped = flag_is _ words _ matched _ _ _ c.has_flag-with_map.ensures asked.3.mapped in
    let parallel = flag_is _ words _ matched _ _ _ c.has_flag-in_parallel.ensures asked.3.parallel in
    rw (named, mapped, parallel) asked.3
