use Rattle.std.proofs.Common.{◌<◌, slice_index, ◌∙◌, arith}
use Rattle.heap_model.specs.Geometry.{roots}
use Rattle.filter_trace.proofs.TraceLemmas.{roots_step}
use Rattle.filter_trace.proofs.scan.Scan.follow_roots.Goals as goal

pub loop-root-preserved : goal.loop-root-preserved
loop-root-preserved c =
    let below : slice_index c.args.kinds.now c.loop-root.root < c.loop-root.found.kinds =
    rw c.loop-root.invariant.same (c.requires.kinds c.loop-root.root 0 c.loop-root-test.true) in
    let root : c.loop-root.root < roots = omega arith in
    record {
      same = c.follow.ensures.kinds ∙ c.loop-root.invariant.same;
      upto = rw (c.follow.ensures.kinds) (roots_step (slice_index c.args.self.now.words.now)
          (slice_index c.args.kinds.now) c.loop-root.found.kinds c.loop-root.root
          c.loop-root.found.pairs.items c.follow.new.found.pairs.items c.loop-root.found.marks c.follow.new.found.marks
          c.loop-root.invariant.upto root below c.in_ok-follow.ensures.ok);
    }
