use Rattle.std.proofs.Common.{◌≡◌, ◌+◌, slice_index}
use Rattle.mixed_trace.specs.Reach.{modes_of}
use Rattle.mixed_trace.specs.Steps.{FollowsEach, IsRootAmong}
use Rattle.mixed_trace.proofs.steps.follow_roots.Given as goal

abbrev pub invariant-loop-root : goal.invariant-loop-root
invariant-loop-root g l = record {
  same : l.found.kinds ≡ g.F.Filter.KINDS + 1;
  upto : FollowsEach (slice_index l.scan.words.now) (modes_of l.modes) (g.F.Filter.links_of l._filter) g.F.Filter.KINDS
      (IsRootAmong (modes_of l.modes) l.root)
      l.initial.found.pairs.items l.found.pairs.items l.initial.found.marks l.found.marks;
}
