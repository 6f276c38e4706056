use Rattle.std.proofs.Common.{◌≡◌, length, slice_index}
use Rattle.root_reach.specs.Steps.{PropagatesRoots}
use Rattle.root_reach.proofs.steps.follow_roots.Given as goal

abbrev pub invariant-loop-root : goal.invariant-loop-root
invariant-loop-root g l = record {
  same : l.found.origins.kinds ≡ l.initial.found.origins.kinds;
  upto : PropagatesRoots (slice_index l.scan.words.now) (slice_index l.kinds)
      (g.F.Filter.links_of l._filter) l.found.origins.kinds l.root l.found.list.items l.found.origins.labels.items;
  long : length l.found.origins.labels.items ≡ length l.initial.found.origins.labels.items;
}
