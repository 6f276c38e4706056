use Rattle.std.proofs.Common.{◌≡◌, ◌+◌, slice_index}
use Rattle.mixed_trace.specs.Reach.{modes_of}
use Rattle.mixed_trace.specs.Steps.{FollowsEach, IsWordAmong}
use Rattle.mixed_trace.proofs.steps.follow_words.Given as goal

abbrev pub invariant-loop-position : goal.invariant-loop-position
invariant-loop-position g l = record {
  same : l.found.kinds ≡ g.F.Filter.KINDS + 1;
  upto : FollowsEach (slice_index l.scan.words.now) (modes_of l._modes) (g.F.Filter.links_of l._filter) g.F.Filter.KINDS
      (IsWordAmong l.fn.block l.position)
      l.initial.found.pairs.items l.found.pairs.items l.initial.found.marks l.found.marks;
}
