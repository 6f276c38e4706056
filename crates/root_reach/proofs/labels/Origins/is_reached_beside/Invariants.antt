use Rattle.std.proofs.Common.{◌≡◌, ◌<◌, ℕ, Some}
use Rattle.root_reach.specs.declared.origin.Origin.{Origin}
use Rattle.root_reach.specs.declared.origin.Origin.TheVariants.{One}
use Rattle.root_reach.specs.Origins.{origin_at}
use Rattle.root_reach.proofs.labels.Origins.is_reached_beside.Given as goal

abbrev pub invariant-loop-kind : goal.invariant-loop-kind
invariant-loop-kind l = (k : ℕ) → k < l.kind → (origin : Origin) → origin_at l.self.kinds l.self.labels.items l.fn.block k ≡ Some origin
    → origin ≡ One l.fn.root
