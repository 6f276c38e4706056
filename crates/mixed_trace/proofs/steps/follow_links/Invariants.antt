use Rattle.std.proofs.Common.{◌≡◌, ◌+◌, ◌-◌, ◌≤◌, length, take, slice_index}
use Rattle.mixed_trace.specs.Reach.{modes_of}
use Rattle.mixed_trace.specs.Steps.{FollowsEach, IsLinkAmong}
use Rattle.mixed_trace.proofs.steps.follow_links.Given as goal

abbrev pub invariant-loop-position : goal.invariant-loop-position
invariant-loop-position g l = record {
  same : l.found.kinds ≡ g.F.Filter.KINDS + 1;
  upto : FollowsEach (slice_index l.scan.words.now) (modes_of l._modes) (g.F.Filter.links_of l.filter) g.F.Filter.KINDS
      (IsLinkAmong l.fn.block (take l.at (g.F.Filter.links_of l.filter l.kind l.inside)))
      l.initial.found.pairs.items l.found.pairs.items l.initial.found.marks l.found.marks;
  within : l.at ≤ length (g.F.Filter.links_of l.filter l.kind l.inside);
}

abbrev pub decreases-loop-position : goal.decreases-loop-position
decreases-loop-position g l = length (g.F.Filter.links_of l.filter l.kind l.inside) - l.at
