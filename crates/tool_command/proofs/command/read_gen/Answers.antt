use Rattle.std.proofs.Common.{◌∙◌, arith}
use Rattle.tool_command.proofs.CommandLemmas.{number_is}
use Rattle.tool_command.proofs.TakenLemmas.{gen_asked}
use Rattle.tool_command.proofs.command.read_gen.Goals as goal

pub number_of-requests-requires : goal.number_of-requests-requires
number_of-requests-requires c =
    let asked = gen_asked c.requires.0 c.requires.1 in
    (asked.0, rw c.requires.2.rows_are asked.2.counted, omega (arith, asked.2.few))

pub number_of-seed-requires : goal.number_of-seed-requires
number_of-seed-requires c =
    let asked = gen_asked c.requires.0 c.requires.1 in
    (asked.1, rw c.requires.2.rows_are asked.2.seeded, omega (arith, asked.2.small))

pub new-plan-requires-clause-few : goal.new-plan-requires-clause-few
new-plan-requires-clause-few c =
    let asked = gen_asked c.requires.0 c.requires.1 in
    let same = number_is _ _ _ c.requires.2 _ _ _ c.number_of-requests.ensures asked.2.counted in
    omega (arith, same, asked.2.few)

pub new-plan-requires-clause-small : goal.new-plan-requires-clause-small
new-plan-requires-clause-small c =
    let asked = gen_asked c.requires.0 c.requires.1 in
    let same = number_is _ _ _ c.requires.2 _ _ _ c.number_of-seed.ensures asked.2.seeded in
    omega (arith, same, asked.2.small)

pub returns : goal.returns
returns c words taken matched =
    let asked = gen_asked words taken in
    let counted = c.new-plan.ensures.requests ∙ number_is _ words _ matched _ _ _ c.number_of-requests.ensures asked.2.counted in
    let seeded = c.new-plan.ensures.seed ∙ number_is _ words _ matched _ _ _ c.number_of-seed.ensures asked.2.seeded in
    rw (counted, seeded) asked.2
