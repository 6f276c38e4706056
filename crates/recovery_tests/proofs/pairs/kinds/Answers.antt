use Rattle.std.proofs.Common.{◌<◌, arith}
use Rattle.std.proofs.lemmas.List.Elements.{All-set, All-replicate}
use Rattle.recovery_tests.proofs.pairs.kinds.Goals as goal

pub returns-clause-below : goal.returns-clause-below
returns-clause-below c =
    All-set (λ kind. kind < 3) _ 1 1 (omega arith)
    (All-set (λ kind. kind < 3) c.in_ok-kinds.kinds.items 0 2 (omega arith)
    (rw (c.in_ok-kinds.ensures.items_if_clones_equal (λ y same. same)) (All-replicate (λ kind. kind < 3) 1024 0 (omega arith))))
