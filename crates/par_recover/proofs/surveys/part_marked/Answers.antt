use Rattle.std.proofs.Common.{◌≡◌, ◌+◌, ◌++◌, [], ◌∷◌, arith, subst, sym, ap, ◌∙◌}
use Rattle.heap_model.specs.Sizes.{blocks_of}
use Rattle.heap_model.specs.Recovered.{IsBlockOfClass}
use Rattle.heap_recover.specs.Marked.{IsMarked, AreParted}
use Rattle.heap_recover.proofs.PartLemmas.{parted_held, parted_spare, class_index, marked_if, unmarked_if}
use Rattle.par_recover.proofs.surveys.part_marked.Goals as goal
use Rattle.par_recover.proofs.surveys.part_marked.Goals.{then-marked-index+in_ok-push, else-marked-index+in_ok-push-2}

pub loop-index-preserved : goal.loop-index-preserved
loop-index-preserved g c =
    let pairs = c.args.marks.now.pairs in
    let kept = IsMarked pairs in
    let capacity = c.args.geometry.now.capacity in
    let class = c.args.class.number in
    let d = c.args.d in
    let at = c.loop-index.index in
    let block = c.block_at-block.result in
    let tells = c.requires.1.1.1.1 in
    let indexed = class_index g.layout class d at block c.requires.1.1.0 c.requires.1.1.1.0 c.args.class.is
    (subst (λ n. IsBlockOfClass n class d at block) c.requires.0 c.block_at-block.ensures) in
    let says = tells.each at (omega (arith, tells.long class c.args.class.is c.requires.1.1.1.0, c.block_at-block.ensures.below)) in
    elim c.if-marked-index.branch [
      | then-marked-index+in_ok-push w ↦
          let here = marked_if g.layout pairs d at block _ indexed says w.if-marked-index.true in
          let one = parted_held kept capacity class d c.args.class.is at c.loop-index.held.items c.loop-index.spares.items block
          c.block_at-block.ensures here c.loop-index.invariant in
          let held = ap (λ v. v.items) w.held-is ∙ w.in_ok-push.ensures.items in
          let spares = ap (λ v. v.items) w.spares-is in
          subst (λ xs. AreParted kept capacity class d (at + 1) xs c.if-marked-index.spares.items) (sym held)
          (subst (λ xs. AreParted kept capacity class d (at + 1) (c.loop-index.held.items ++ block ∷ []) xs) (sym spares) one)
      | else-marked-index+in_ok-push-2 w ↦
          let unkept = unmarked_if g.layout pairs d at block _ indexed says w.if-marked-index.false in
          let one = parted_spare kept capacity class d c.args.class.is at c.loop-index.held.items c.loop-index.spares.items block
          c.block_at-block.ensures unkept c.loop-index.invariant in
          let held = ap (λ v. v.items) w.held-is in
          let spares = ap (λ v. v.items) w.spares-is ∙ w.in_ok-push-2.ensures.items in
          subst (λ xs. AreParted kept capacity class d (at + 1) xs c.if-marked-index.spares.items) (sym held)
          (subst (λ xs. AreParted kept capacity class d (at + 1) c.loop-index.held.items xs) (sym spares) one)
    ]

pub returns : goal.returns
returns g c =
    let all : c.loop-index.index ≡ blocks_of c.args.class.number = omega (arith, c.blocks_of-index-end.ensures) in
    record {
      ok = subst (λ n. AreParted (IsMarked c.args.marks.now.pairs) c.args.geometry.now.capacity c.args.class.number c.args.d n
          c.loop-index.held.items c.loop-index.spares.items) all c.loop-index.invariant;
    }
