use Rattle.std.proofs.Common.{◌+◌, get_or, take, subst, sym, arith}
use Rattle.seat_state.proofs.WordLemmas.{entry_is}
use Rattle.seat_index.specs.Owned.{IsMarking}
use Rattle.seat_index.proofs.MarkLemmas.{entry_times, marking_step}
use Rattle.seat_index.proofs.owned.mark_all.Goals as goal

pub mark_one-requires : goal.mark_one-requires
mark_one-requires c = let l = c.loop-block.invariant.long in let t = c.loop-block-test.true in
    let x = get_or c.args.list.now c.loop-block.block-index 0 in
    let in_old = c.requires x (entry_times c.args.list.now c.loop-block.block-index x t
    (entry_is c.args.list.now c.loop-block.block-index x 0 t)) in omega arith

pub loop-block-preserved : goal.loop-block-preserved
loop-block-preserved c = let l = c.loop-block.invariant.long in let t = c.loop-block-test.true in
    let x = get_or c.args.list.now c.loop-block.block-index 0 in
    let at = entry_is c.args.list.now c.loop-block.block-index x 0 t in
    let in_old = c.requires x (entry_times c.args.list.now c.loop-block.block-index x t at) in
    subst (λ l. IsMarking c.args.blocks.now l (take (c.loop-block.block-index + 1) c.args.list.now) c.args.mark) (sym c.mark_one.ensures)
    (marking_step c.args.blocks.now c.loop-block.blocks c.args.list.now c.args.mark c.loop-block.block-index x c.loop-block.invariant t at
    (omega arith))
