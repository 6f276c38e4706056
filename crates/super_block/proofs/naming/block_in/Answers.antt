use Rattle.super_block.proofs.NamingLemmas.{no_multiple}
use Rattle.super_block.proofs.naming.block_in.Goals as goal

pub returns-then-place-division-ne0-clause-none : goal.returns-then-place-division-ne0-clause-none
returns-then-place-division-ne0-clause-none c l offset found =
    no_multiple l offset c.args.capacity c.args.place c.args.division found c.requires.words (λ whole. absurd (c.if-place-division-ne0.true whole))

pub returns-then-place-division-clause-none : goal.returns-then-place-division-clause-none
returns-then-place-division-clause-none c l offset found =
    no_multiple l offset c.args.capacity c.args.place c.args.division found c.requires.words (λ _. c.if-place-division.true)
