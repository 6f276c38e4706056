use Rattle.std.proofs.Common.{◌+◌, ◌<◌, ℕ, slice_index, refl, subst, ◌∙◌, arith}
use Rattle.std.proofs.lemmas.Result.{err_from_is_err_and}
use Rattle.heap_model.specs.Geometry.{roots, root_word}
use Rattle.heap_model.specs.Image.{Image}
use Rattle.heap_model.specs.Reach.{by_start}
use Rattle.mixed_trace.specs.declared.mode.Mode.{Mode}
use Rattle.mixed_trace.specs.declared.mode.Mode.TheVariants.{Kind}
use Rattle.mixed_trace.specs.Reach.{modes_of}
use Rattle.mixed_trace.specs.Steps.{FollowsAs, IsRootAmong}
use Rattle.mixed_trace.proofs.MixedStepLemmas.{none_yet, one_more, root_cases}
use Rattle.mixed_trace.proofs.WorkLemmas.{tells_root}
use Rattle.mixed_trace.proofs.steps.follow_roots.Goals as goal

pub loop-root-init : goal.loop-root-init
loop-root-init g c = record {
  same = c.requires.kinds;
  upto = none_yet (slice_index c.args.scan.now.words.now) (modes_of c.args.modes.now) (g.F.Filter.links_of c.args._filter.now) g.F.Filter.KINDS
      (IsRootAmong (modes_of c.args.modes.now) 0) c.args.found.now.pairs.items c.args.found.now.marks c.requires.found
      (λ at mode this. let none = this.below in absurd (omega arith));
}

pub returns-in_err-follow_as-clause-err : goal.returns-in_err-follow_as-clause-err
returns-in_err-follow_as-clause-err g c =
    let p = err_from_is_err_and c.from_residual.result c.from_residual.ensures.1 in
    rw (p.1, p.2) (tells_root (slice_index c.args.scan.now.words.now) (modes_of c.args.modes.now)
    (g.F.Filter.links_of c.args._filter.now) c.loop-root.root
    (modes_of c.args.modes.now c.loop-root.root) c.in_err-follow_as.field-0.0 (omega arith) refl c.in_err-follow_as.ensures.err)

pub loop-root-preserved : goal.loop-root-preserved
loop-root-preserved g c =
    let image : Image = slice_index c.args.scan.now.words.now in
    let modes : ℕ → Mode = modes_of c.args.modes.now in
    let root : ℕ = c.loop-root.root in
    let below : root < roots = omega arith in
    record {
      same = c.follow_as.ensures.kinds ∙ c.loop-root.invariant.same;
      upto = one_more image modes (g.F.Filter.links_of c.args._filter.now) g.F.Filter.KINDS
          (IsRootAmong modes root) (IsRootAmong modes (root + 1)) (root_word root) (modes root)
          c.args.found.now.pairs.items c.loop-root.found.pairs.items c.follow_as.new.found.pairs.items c.args.found.now.marks
          c.loop-root.found.marks c.follow_as.new.found.marks
          c.loop-root.invariant.upto (c.requires.modes root (Kind 0) c.loop-root-test.true)
          (λ b leads. by_start b (modes root) (record { root = root; below = below; mode_is = refl; leads = leads }))
          (λ n m this. root_cases modes root n m this)
          (subst (λ n. FollowsAs image n (root_word root) (modes root)
          c.loop-root.found.pairs.items c.follow_as.new.found.pairs.items c.loop-root.found.marks c.follow_as.new.found.marks)
          c.KINDS.ensures c.in_ok-follow_as.ensures.ok);
    }
