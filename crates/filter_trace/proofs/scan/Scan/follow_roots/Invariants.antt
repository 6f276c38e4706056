use Rattle.std.proofs.Common.{◌≡◌, slice_index}
use Rattle.filter_trace.specs.Trace.{FollowsRoots}
use Rattle.filter_trace.proofs.scan.Scan.follow_roots.Given as goal

abbrev pub invariant-loop-root : goal.invariant-loop-root
invariant-loop-root l = record {
  same : l.found.kinds ≡ l.initial.found.kinds;
  upto : FollowsRoots (slice_index l.self.words.now) (slice_index l.kinds) l.found.kinds l.root l.found.pairs.items l.found.marks;
}
