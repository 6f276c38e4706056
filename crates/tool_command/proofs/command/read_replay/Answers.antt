use Rattle.tool_command.proofs.CommandLemmas.{text_is, number_or_is}
use Rattle.tool_command.proofs.TakenLemmas.{replay_asked}
use Rattle.tool_command.proofs.command.read_replay.Goals as goal

pub text_of-image-requires : goal.text_of-image-requires
text_of-image-requires c =
    let asked = replay_asked c.requires.0 c.requires.1 in
    (asked.0, rw c.requires.2.rows_are asked.2.named)

pub number_or-seed-requires : goal.number_or-seed-requires
number_or-seed-requires c =
    let asked = replay_asked c.requires.0 c.requires.1 in
    (asked.1, rw c.requires.2.rows_are asked.2.seeded, asked.2.fits)

pub returns : goal.returns
returns c words taken matched =
    let asked = replay_asked words taken in
    let named = text_is _ words _ matched _ _ _ c.text_of-image.ensures asked.2.named in
    let seeded = number_or_is _ words _ matched _ _ _ _ c.number_or-seed.ensures asked.2.seeded in
    rw (named, seeded) asked.2
