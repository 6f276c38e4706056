use Rattle.std.proofs.Common.{◌+◌, ◌++◌, [], ◌∷◌, subst, sym, ap, ◌∙◌}
use Rattle.heap_model.specs.Recovered.{IsBlockOfClass}
use Rattle.heap_recover.specs.Marked.{IsMarked, AreParted}
use Rattle.heap_recover.proofs.PartLemmas.{parted_held, parted_spare, class_index, marked_if, unmarked_if}
use Rattle.heap_recover.proofs.parts.part_blocks.Goals as goal
use Rattle.heap_recover.proofs.parts.part_blocks.Goals.{then-holds+in_ok-push, else-holds+in_ok-push-2}

pub loop-index-preserved : goal.loop-index-preserved
loop-index-preserved g c =
    let marks = c.args.marks.now.pairs in
    let kept = IsMarked marks in
    let block = c.block_at-block.result in
    let capacity = c.requires.0 in
    let taken = c.requires.1.1.0 in
    let info = c.requires.1.1.1.0 in
    let indexed = class_index g.layout c.args.class.number c.args.d c.loop-index.index block taken info c.args.class.is
    (subst (λ n. IsBlockOfClass n c.args.class.number c.args.d c.loop-index.index block) capacity c.block_at-block.ensures) in
    let says = c.holds.ensures g.layout c.requires.1.1.1.1.1 in
    let next = c.loop-index.index + 1 in
    elim c.if-holds.branch [
      | then-holds+in_ok-push w ↦
          let here = marked_if g.layout marks c.args.d c.loop-index.index block c.holds.result indexed says w.if-holds.true in
          let one = parted_held kept c.args.geometry.now.capacity c.args.class.number c.args.d c.args.class.is c.loop-index.index
          c.loop-index.held.items c.loop-index.spares.items block c.block_at-block.ensures here c.loop-index.invariant in
          let held = ap (λ v. v.items) w.held-is ∙ w.in_ok-push.ensures.items in
          let spares = ap (λ v. v.items) w.spares-is in
          subst (λ xs. AreParted kept c.args.geometry.now.capacity c.args.class.number c.args.d next xs c.if-holds.spares.items) (sym held)
          (subst (λ xs. AreParted kept c.args.geometry.now.capacity c.args.class.number c.args.d next
          (c.loop-index.held.items ++ block ∷ []) xs) (sym spares) one)
      | else-holds+in_ok-push-2 w ↦
          let unkept = unmarked_if g.layout marks c.args.d c.loop-index.index block c.holds.result indexed says w.if-holds.false in
          let one = parted_spare kept c.args.geometry.now.capacity c.args.class.number c.args.d c.args.class.is c.loop-index.index
          c.loop-index.held.items c.loop-index.spares.items block c.block_at-block.ensures unkept c.loop-index.invariant in
          let held = ap (λ v. v.items) w.held-is in
          let spares = ap (λ v. v.items) w.spares-is ∙ w.in_ok-push-2.ensures.items in
          subst (λ xs. AreParted kept c.args.geometry.now.capacity c.args.class.number c.args.d next xs c.if-holds.spares.items) (sym held)
          (subst (λ xs. AreParted kept c.args.geometry.now.capacity c.args.class.number c.args.d next c.loop-index.held.items xs) (sym spares) one)
    ]
