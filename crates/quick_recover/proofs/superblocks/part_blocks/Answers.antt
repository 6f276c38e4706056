use Rattle.std.proofs.Common.{◌+◌, ◌++◌, [], ◌∷◌, subst, sym, ap, ◌∙◌}
use Rattle.heap_model.specs.Recovered.{IsBlockOfClass}
use Rattle.heap_at_rest.specs.Orderly.{IsHeldByAnchors}
use Rattle.heap_recover.specs.Marked.{AreParted}
use Rattle.heap_recover.proofs.PartLemmas.{parted_held, parted_spare}
use Rattle.quick_recover.proofs.HoldLemmas.{unmarked_held, marked_free}
use Rattle.quick_recover.proofs.superblocks.part_blocks.Goals as goal
use Rattle.quick_recover.proofs.superblocks.part_blocks.Goals.{then-get+in_ok-push, else-get+in_ok-push-2}

pub loop-index-preserved : goal.loop-index-preserved
loop-index-preserved g c =
    let kept = IsHeldByAnchors g.image in
    let class = c.args.class in
    let block = c.block_at-block.result in
    let of = subst (λ n. IsBlockOfClass n class.number c.args.d c.loop-index.index block) c.requires.0 c.block_at-block.ensures in
    let out = c.requires.1.1.0 in
    let next = c.loop-index.index + 1 in
    elim c.if-get.branch [
      | then-get+in_ok-push w ↦
          let away = marked_free g.image out.free class.number c.args.d c.args.free.now out.is class.is c.requires.1.1.1.0 c.loop-index.index
          block of c.requires.1.1.1.1 (sym c.get.ensures ∙ w.if-get.true) in
          let one = parted_spare kept c.args.geometry.now.capacity class.number c.args.d class.is c.loop-index.index c.loop-index.held.items
          c.loop-index.spares.items block c.block_at-block.ensures away c.loop-index.invariant in
          let held = ap (λ v. v.items) w.held-is in
          let spares = ap (λ v. v.items) w.spares-is ∙ w.in_ok-push.ensures.items in
          subst (λ xs. AreParted kept c.args.geometry.now.capacity class.number c.args.d next xs c.if-get.spares.items) (sym held)
          (subst (λ xs. AreParted kept c.args.geometry.now.capacity class.number c.args.d next c.loop-index.held.items xs) (sym spares) one)
      | else-get+in_ok-push-2 w ↦
          let here = unmarked_held g.image out.free class.number c.args.d c.args.free.now out.is class.is c.requires.1.1.1.0 c.loop-index.index
          block of c.requires.1.1.1.1 (sym c.get.ensures ∙ w.if-get.false) in
          let one = parted_held kept c.args.geometry.now.capacity class.number c.args.d class.is c.loop-index.index c.loop-index.held.items
          c.loop-index.spares.items block c.block_at-block.ensures here c.loop-index.invariant in
          let held = ap (λ v. v.items) w.held-is ∙ w.in_ok-push-2.ensures.items in
          let spares = ap (λ v. v.items) w.spares-is in
          subst (λ xs. AreParted kept c.args.geometry.now.capacity class.number c.args.d next xs c.if-get.spares.items) (sym held)
          (subst (λ xs. AreParted kept c.args.geometry.now.capacity class.number c.args.d next (c.loop-index.held.items ++ block ∷ []) xs)
          (sym spares) one)
    ]
