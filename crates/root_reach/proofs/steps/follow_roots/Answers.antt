use Rattle.std.proofs.Common.{◌+◌, ◌<◌, slice_index, ◌∙◌, arith}
use Rattle.heap_model.specs.Geometry.{roots}
use Rattle.root_reach.specs.declared.origin.Origin.TheVariants.{One}
use Rattle.root_reach.proofs.ReachStepLemmas.{follow_grows}
use Rattle.root_reach.proofs.TraceLemmas.{roots_step}
use Rattle.root_reach.proofs.steps.follow_roots.Goals as goal

pub loop-root-preserved : goal.loop-root-preserved
loop-root-preserved g c =
    let below : slice_index c.args.kinds.now c.loop-root.root < c.loop-root.found.origins.kinds =
    rw c.loop-root.invariant.same (c.requires.kinds c.loop-root.root 0 c.loop-root-test.true) in
    let root : c.loop-root.root < roots = omega arith in
    record {
      same = c.follow.ensures.kinds ∙ c.loop-root.invariant.same;
      upto = rw (c.follow.ensures.kinds) (roots_step (slice_index c.args.scan.now.words.now) (slice_index c.args.kinds.now)
          (g.F.Filter.links_of c.args._filter.now) c.loop-root.found.origins.kinds c.loop-root.root
          c.loop-root.found.list.items c.follow.new.found.list.items c.loop-root.found.origins.labels.items c.follow.new.found.origins.labels.items
          c.loop-root.invariant.upto root below c.in_ok-follow.ensures.ok);
      long = (follow_grows (slice_index c.args.scan.now.words.now) (slice_index c.args.kinds.now)
          (g.F.Filter.links_of c.args._filter.now) c.loop-root.found.origins.kinds
          c.loop-root.found.list.items c.follow.new.found.list.items c.loop-root.found.origins.labels.items
          c.follow.new.found.origins.labels.items (40 + c.loop-root.root) (slice_index c.args.kinds.now c.loop-root.root) (One c.loop-root.root)
          c.loop-root.invariant.upto.so_far.room below c.in_ok-follow.ensures.ok).long ∙ c.loop-root.invariant.long;
    }
