use Rattle.std.proofs.Common.{◌∙◌, arith}
use Rattle.heap_model.specs.Geometry.{largest_capacity_fits}
use Rattle.super_block.proofs.ConstantLemmas.{largest_capacity_is}
use Rattle.tool_command.proofs.CommandLemmas.{text_is, number_is}
use Rattle.tool_command.proofs.TakenLemmas.{format_asked}
use Rattle.tool_command.proofs.command.read_format.Goals as goal

pub text_of-image-requires : goal.text_of-image-requires
text_of-image-requires c =
    let asked = format_asked c.requires.0 c.requires.1 in
    (asked.0, rw c.requires.2.rows_are asked.2.named)

pub number_of-requires : goal.number_of-requires
number_of-requires c =
    let asked = format_asked c.requires.0 c.requires.1 in
    (asked.1, rw c.requires.2.rows_are asked.2.counted, omega (arith, asked.2.most, largest_capacity_fits))

pub new-layout-requires-clause-some : goal.new-layout-requires-clause-some
new-layout-requires-clause-some c =
    let asked = format_asked c.requires.0 c.requires.1 in
    let counted = number_is _ _ _ c.requires.2 _ _ _ c.number_of.ensures asked.2.counted in
    omega (arith, counted, asked.2.least)

pub new-layout-requires-clause-small : goal.new-layout-requires-clause-small
new-layout-requires-clause-small c =
    let asked = format_asked c.requires.0 c.requires.1 in
    let counted = number_is _ _ _ c.requires.2 _ _ _ c.number_of.ensures asked.2.counted in
    omega (arith, largest_capacity_is, counted, asked.2.most)

pub returns : goal.returns
returns c words taken matched =
    let asked = format_asked words taken in
    let named = text_is _ words _ matched _ _ _ c.text_of-image.ensures asked.2.named in
    let counted = c.new-layout.ensures ∙ number_is _ words _ matched _ _ _ c.number_of.ensures asked.2.counted in
    rw (named, counted) asked.2
