use Rattle.std.proofs.Common.{◌≡◌, slice_index, subst, arith}
use Rattle.heap_recover.specs.Rebuilt.{AreCleared}
use Rattle.heap_recover.proofs.PassLemmas.{cleared_next}
use Rattle.heap_recover.proofs.passes.clear_rest.Goals as goal

pub loop-d-preserved : goal.loop-d-preserved
loop-d-preserved c =
    cleared_next (slice_index c.args.new.now) (slice_index c.loop-d.new)
    (slice_index c.rebuild_superblock.new.words) c.args.geometry.now.capacity c.args.used c.loop-d.d
    (omega arith) (omega arith) c.loop-d.invariant c.rebuild_superblock.ensures

pub returns : goal.returns
returns c =
    let all : c.loop-d.d ≡ c.args.geometry.now.capacity = omega arith in
    subst (λ n. AreCleared (slice_index c.args.new.now) (slice_index c.loop-d.new) c.args.geometry.now.capacity c.args.used n) all c.loop-d.invariant
