use Rattle.std.proofs.Common.{◌≡◌, ◌-◌, ◌≤◌, length, take, slice_index}
use Rattle.filter_trace.specs.Trace.{FollowsLinks}
use Rattle.filter_trace.proofs.scan.Scan.follow_links.Given as goal

abbrev pub invariant-loop-position : goal.invariant-loop-position
invariant-loop-position g l = record {
  same : l.found.kinds ≡ g.F.Filter.KINDS;
  upto : FollowsLinks (slice_index l.self.words.now) (slice_index l.kinds) (g.F.Filter.links_of l.filter) g.F.Filter.KINDS l.fn.block
      (take l.at (g.F.Filter.links_of l.filter l.kind l.inside)) l.initial.found.pairs.items l.found.pairs.items l.initial.found.marks l.found.marks;
  within : l.at ≤ length (g.F.Filter.links_of l.filter l.kind l.inside);
}

abbrev pub decreases-loop-position : goal.decreases-loop-position
decreases-loop-position g l = length (g.F.Filter.links_of l.filter l.kind l.inside) - l.at
