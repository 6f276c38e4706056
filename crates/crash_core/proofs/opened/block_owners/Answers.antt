use Rattle.std.proofs.Common.{◌+◌, ap, sym, subst, length, refl, lt-ltb, slice_index, arith}
use Rattle.heap_model.specs.Geometry.{capacity_word, image_words}
use Rattle.core_model.proofs.PlaceLemmas.{not-lt}
use Rattle.seat_state.proofs.PickedLemmas.{entry_of}
use Rattle.crash_core.proofs.OpenedBlocks.{HaveSeats, small_seated, large_seated, all_seated}
use Rattle.seat_state.proofs.HeldSoFar.{block_there, within}
use Rattle.crash_core.proofs.opened.block_owners.Goals.{then-block-lt-SUPERBLOCK_WORDS, else-block-lt-SUPERBLOCK_WORDS}
use Rattle.crash_core.proofs.opened.block_owners.Goals as goal

pub index_mut-requires : goal.index_mut-requires
index_mut-requires c =
    let at = entry_of _ c.args.heap.now.held c.loop-i.i (record { first_word = 0; words = 0 }) c.held-block-items.ensures.held c.loop-i-test.true in
    let e = ap length c.held-block-items.ensures.held in let t = c.loop-i-test.true in
    let w = within c.args.heap.now.words c.args.heap.now.held c.args.owners.now c.held-block-items.ensures.ready c.requires _
    (block_there c.args.heap.now.held c.loop-i.i _ (omega arith) at) (lt-ltb _ 8192 c.if-block-lt-SUPERBLOCK_WORDS.true) in
    let l = c.loop-i.invariant.long in omega (arith, w, l)

pub loop-i-preserved : goal.loop-i-preserved
loop-i-preserved c =
    let at = entry_of _ c.args.heap.now.held c.loop-i.i (record { first_word = 0; words = 0 }) c.held-block-items.ensures.held c.loop-i-test.true in
    let e = ap length c.held-block-items.ensures.held in let t = c.loop-i-test.true in let r = c.requires in
    let at_o = entry_of c.args.owners.now _ c.loop-i.i 0 refl (omega arith) in
    elim c.if-block-lt-SUPERBLOCK_WORDS.branch [
      | then-block-lt-SUPERBLOCK_WORDS w ↦ subst (λ bs. HaveSeats c.args.heap.now.held c.args.owners.now (c.loop-i.i + 1)
          (image_words (slice_index c.args.heap.now.words capacity_word)) bs.items) (sym w.blocks-is)
          (small_seated c.args.heap.now.words c.args.heap.now.held c.args.owners.now c.held-block-items.ensures.ready c.requires c.loop-i.i _ _
          (omega arith) at at_o c.loop-i.blocks.items c.loop-i.invariant (lt-ltb _ 8192 w.if-block-lt-SUPERBLOCK_WORDS.true))
      | else-block-lt-SUPERBLOCK_WORDS w ↦ subst (λ bs. HaveSeats c.args.heap.now.held c.args.owners.now (c.loop-i.i + 1)
          (image_words (slice_index c.args.heap.now.words capacity_word)) bs.items) (sym w.blocks-is)
          (large_seated c.args.heap.now.words c.args.heap.now.held c.args.owners.now c.held-block-items.ensures.ready c.requires c.loop-i.i _ _
          (omega arith) at at_o c.loop-i.blocks.items c.loop-i.invariant (not-lt _ 8192 w.if-block-lt-SUPERBLOCK_WORDS.false))
    ]

pub returns : goal.returns
returns c = let l = ap length c.held-block-items.ensures.held in record {
  ok = all_seated c.args.heap.now.words c.args.heap.now.held c.args.owners.now c.held-block-items.ensures.ready c.requires c.loop-i.i
      c.loop-i.blocks.items c.loop-i.invariant (let f = c.loop-i-test.false in omega arith);
  ready = c.held-block-items.ensures.ready;
}
