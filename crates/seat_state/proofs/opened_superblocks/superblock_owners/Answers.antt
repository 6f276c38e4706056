use Rattle.std.proofs.Common.{◌+◌, ◌-◌, ◌/◌, ap, sym, subst, ◌∙◌, get_or, length, refl, lt-ltb, slice_index, arith}
use Rattle.heap_model.specs.Geometry.{capacity_word, start_word}
use Rattle.core_model.proofs.PlaceLemmas.{not-lt}
use Rattle.seat_state.specs.OpenedSuperblocks.{IsLargeGiven}
use Rattle.seat_state.proofs.PickedLemmas.{entry_of}
use Rattle.seat_state.proofs.HeldSoFar.{block_there}
use Rattle.seat_state.proofs.OpenedSuperblocks.{HaveSuperblocks}
use Rattle.seat_state.proofs.OpenedSuperblocks.{large_at, small_given, large_given, all_given}
use Rattle.seat_state.proofs.opened_superblocks.superblock_owners.Goals.{then-block-ge-SUPERBLOCK_WORDS, else-block-ge-SUPERBLOCK_WORDS}
use Rattle.seat_state.proofs.opened_superblocks.superblock_owners.Goals as goal

pub superblock_of-d-requires : goal.superblock_of-d-requires
superblock_of-d-requires c =
    let at = entry_of _ c.args.heap.now.held c.loop-i.i (record { first_word = 0; words = 0 }) c.held-block-items.ensures.held c.loop-i-test.true in
    let e = ap length c.held-block-items.ensures.held in let t = c.loop-i-test.true in
    let l = large_at c.args.heap.now.words c.args.heap.now.held c.args.owners.now c.held-block-items.ensures.ready c.requires _
    (block_there c.args.heap.now.held c.loop-i.i _ (omega arith) at) (not-lt _ 8192 c.if-block-ge-SUPERBLOCK_WORDS.true) in
    let g = c.geometry-geometry.ensures in omega (arith, l.0)

pub give_large-requires-clause-inside : goal.give_large-requires-clause-inside
give_large-requires-clause-inside c =
    let at = entry_of _ c.args.heap.now.held c.loop-i.i (record { first_word = 0; words = 0 }) c.held-block-items.ensures.held c.loop-i-test.true in
    let e = ap length c.held-block-items.ensures.held in let t = c.loop-i-test.true in
    let l = large_at c.args.heap.now.words c.args.heap.now.held c.args.owners.now c.held-block-items.ensures.ready c.requires _
    (block_there c.args.heap.now.held c.loop-i.i _ (omega arith) at) (not-lt _ 8192 c.if-block-ge-SUPERBLOCK_WORDS.true) in
    let s = c.superblock_of-d.ensures in let g = c.geometry-geometry.ensures in let n = c.loop-i.invariant.long in omega (arith, l.2)

pub loop-i-preserved : goal.loop-i-preserved
loop-i-preserved c =
    let at = entry_of _ c.args.heap.now.held c.loop-i.i (record { first_word = 0; words = 0 }) c.held-block-items.ensures.held c.loop-i-test.true in
    let e = ap length c.held-block-items.ensures.held in let t = c.loop-i-test.true in let r = c.requires in
    let at_o = entry_of c.args.owners.now _ c.loop-i.i 0 refl (omega arith) in
    elim c.if-block-ge-SUPERBLOCK_WORDS.branch [
      | then-block-ge-SUPERBLOCK_WORDS w ↦ subst (λ ss. HaveSuperblocks
          (slice_index c.args.heap.now.words capacity_word) c.args.heap.now.held c.args.owners.now (c.loop-i.i + 1) ss.items) (sym w.superblocks-is)
          (large_given c.args.heap.now.words c.args.heap.now.held c.args.owners.now c.held-block-items.ensures.ready c.requires c.loop-i.i _ _
          (omega arith) at at_o (not-lt _ 8192 w.if-block-ge-SUPERBLOCK_WORDS.true) c.loop-i.superblocks.items c.loop-i.invariant _
          (subst (λ d. IsLargeGiven c.loop-i.superblocks.items w.give_large.new.superblocks.items _ d _)
          (w.superblock_of-d.ensures ∙ ap (λ n. ((get_or c.held-block-items.result.now c.loop-i.i
          (record { first_word = 0; words = 0 })).first_word - start_word n 0) / 8192) c.geometry-geometry.ensures) w.give_large.ensures))
      | else-block-ge-SUPERBLOCK_WORDS w ↦ subst (λ ss. HaveSuperblocks
          (slice_index c.args.heap.now.words capacity_word) c.args.heap.now.held c.args.owners.now (c.loop-i.i + 1) ss.items) (sym w.superblocks-is)
          (small_given c.args.heap.now.words c.args.heap.now.held c.args.owners.now c.held-block-items.ensures.ready c.requires c.loop-i.i _ _
          (omega arith) at at_o c.loop-i.superblocks.items c.loop-i.invariant (lt-ltb _ 8192 w.if-block-ge-SUPERBLOCK_WORDS.false))
    ]

pub returns : goal.returns
returns c = let l = ap length c.held-block-items.ensures.held in record {
  ok = all_given c.args.heap.now.words c.args.heap.now.held c.args.owners.now c.held-block-items.ensures.ready c.requires c.loop-i.i
      c.loop-i.superblocks.items c.loop-i.invariant (let f = c.loop-i-test.false in omega arith);
}
