use Rattle.std.proofs.Common.{◌≡◌, ◌-◌, ◌≤◌, length, take, slice_index}
use Rattle.root_reach.specs.Steps.{PropagatesLinks}
use Rattle.root_reach.proofs.steps.follow_links.Given as goal

abbrev pub invariant-loop-position : goal.invariant-loop-position
invariant-loop-position g l = record {
  same : l.found.origins.kinds ≡ g.F.Filter.KINDS;
  upto : PropagatesLinks (slice_index l.scan.words.now) (slice_index l._kinds)
      (g.F.Filter.links_of l.filter) g.F.Filter.KINDS l.fn.finding.block l.fn.finding.origin
      (take l.at (g.F.Filter.links_of l.filter l.finding.kind l.inside))
      l.initial.found.list.items l.found.list.items l.initial.found.origins.labels.items l.found.origins.labels.items;
  within : l.at ≤ length (g.F.Filter.links_of l.filter l.finding.kind l.inside);
}

abbrev pub decreases-loop-position : goal.decreases-loop-position
decreases-loop-position g l = length (g.F.Filter.links_of l.filter l.finding.kind l.inside) - l.at
