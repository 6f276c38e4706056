use Rattle.std.proofs.lemmas.List.Elements.{All-set, All-replicate}
use Rattle.mixed_trace.specs.Reach.{FitsBelow}
use Rattle.recovery_tests.proofs.told.modes.Goals as goal

pub returns-clause-fit : goal.returns-clause-fit
returns-clause-fit c =
    All-set (FitsBelow 3) _ 1 c.args.second c.requires.second
    (All-set (FitsBelow 3) c.in_ok-modes.modes.items 0 c.args.first c.requires.first
    (rw (c.in_ok-modes.ensures.items_if_clones_equal (λ y same. same)) (All-replicate (FitsBelow 3) 1024 c.args.others c.requires.others)))
