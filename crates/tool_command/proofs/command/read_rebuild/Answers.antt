use Rattle.std.proofs.Common.{arith}
use Rattle.tool_command.proofs.CommandLemmas.{text_is, number_or_is}
use Rattle.tool_command.proofs.TakenLemmas.{rebuild_asked}
use Rattle.tool_command.proofs.command.read_rebuild.Goals as goal

pub text_of-image-requires : goal.text_of-image-requires
text_of-image-requires c =
    let asked = rebuild_asked c.requires.0 c.requires.1 in
    (asked.0, rw c.requires.2.rows_are asked.3.named)

pub number_or-budget-requires : goal.number_or-budget-requires
number_or-budget-requires c =
    let asked = rebuild_asked c.requires.0 c.requires.1 in
    (asked.1, rw c.requires.2.rows_are asked.3.within, omega (arith, asked.3.below))

pub number_or-seed-requires : goal.number_or-seed-requires
number_or-seed-requires c =
    let asked = rebuild_asked c.requires.0 c.requires.1 in
    (asked.2, rw c.requires.2.rows_are asked.3.seeded, asked.3.fits)

pub returns : goal.returns
returns c words taken matched =
    let asked = rebuild_asked words taken in
    let named = text_is _ words _ matched _ _ _ c.text_of-image.ensures asked.3.named in
    let within = number_or_is _ words _ matched _ _ _ _ c.number_or-budget.ensures asked.3.within in
    let seeded = number_or_is _ words _ matched _ _ _ _ c.number_or-seed.ensures asked.3.seeded in
    rw (named, within, seeded) asked.3
