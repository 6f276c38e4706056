use Rattle.std.proofs.Common.{subst, set, false}
use Rattle.heap_model.specs.declared.block.Block.{Block}
use Rattle.block_heap.specs.Held.{held_of, block_of_mark, marked_blocks}
use Rattle.heap_shape.specs.Moves.{TakesFrom}
use Rattle.block_heap.proofs.HeldLemmas.{takes, mark_block, one_mark}
use Rattle.block_heap.proofs.held.HeldBlocks.remove.Goals as goal

pub returns-clause-held : goal.returns-clause-held
returns-clause-held c =
    let h = c.args.self.now in
    let m = c.mark_of-mark.result in
    subst (λ (b : Block). TakesFrom b (held_of h) (marked_blocks h.start h.words.items (set h.marks.items m false)))
    (mark_block h.start h.words.items m c.args.first_word c.mark_of-mark.ensures.at)
    (takes (block_of_mark h.start h.words.items) h.marks.items m c.mark_of-mark.ensures.within (one_mark h.start h.words.items))
