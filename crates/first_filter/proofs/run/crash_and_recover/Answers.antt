use Rattle.std.proofs.Common.{ℕ, List, slice_index, sym, subst}
use Rattle.first_filter.specs.Lists.{HasList}
use Rattle.first_filter.proofs.run.crash_and_recover.Goals as goal

pub returns : goal.returns
returns c =
    let nodes = c.in_ok-nodes.nodes in
    c.in_ok-left.ensures nodes
    (subst (λ (l : List ℕ). HasList (slice_index l) nodes) (sym c.deref.ensures.value) (c.crash.ensures nodes c.in_ok-nodes.ensures))
