use Rattle.std.proofs.Common.{◌≡◌, ◌∙◌, ◌<◌, length, get_or, sym, subst, ap, arith}
use Rattle.std.specs.Prelude.{slice_index}
use Rattle.heap_model.specs.declared.block.Block.{Block}
use Rattle.heap_model.specs.Geometry.{info_word}
use Rattle.heap_model.specs.Header.{capacity_of}
use Rattle.heap_shape.specs.Moves.{AddsTo}
use Rattle.block_heap.specs.Begun.{IsBegun}
use Rattle.block_heap.specs.Held.{held_of, HasMark, at_mark}
use Rattle.block_heap.proofs.OpeningLemmas.{HoldsFirst, no_mark, knows_more, knows_same, next_marked, next_held, all_held}
use Rattle.block_heap.proofs.held.HeldBlocks.of.Goals as goal

-- no mark is set yet
pub divide-requires-clause-none : goal.divide-requires-clause-none
divide-requires-clause-none c mark marked = absurd (no_mark c.loop-d.blocks c.loop-d.invariant.0 mark marked)

-- the size of one more superblock's blocks is known
pub loop-d-preserved : goal.loop-d-preserved
loop-d-preserved c =
    let words = c.args.ready.now.words in
    let d = c.loop-d.d in
    let size = c.words_begun.result in
    let all : c.capacity-d-end.result ≡ capacity_of (slice_index words) = c.capacity-d-end.ensures ∙ c.geometry-geometry.ensures in
    let within : d < capacity_of (slice_index words) = subst (λ n. d < n) all c.loop-d-test.true in
    let info : get_or c.words.result.now c.info.result 0 ≡ slice_index words (info_word d) =
    ap (λ xs. get_or xs c.info.result 0) c.words.ensures.words ∙ ap (λ i. get_or words i 0) c.info.ensures in
    let begun = subst (λ i. IsBegun i size) info c.words_begun.ensures in (
      c.divide.ensures.held ∙ c.loop-d.invariant.0,
      knows_more words c.loop-d.blocks c.divide.new.self d size c.loop-d.invariant.1 within begun c.divide.ensures.start c.divide.ensures.words,
    )

-- each held block has a mark
pub add-requires : goal.add-requires
add-requires c =
    let h = c.loop-b.blocks in
    let held = c.args.ready.now.held in
    let i = c.loop-b.b-index in
    let none : Block = record { first_word = 0; words = 0 } in
    let same = c.held-b-items.ensures.held in
    let within : i < length held = subst (λ xs. i < length xs) same c.loop-b-test.true in
    subst (λ xs. HasMark h (get_or xs i none).first_word) (sym same)
    (next_marked c.args.ready.now.words held i none h c.held-b-items.ensures.ready within c.loop-b.invariant.0)

-- one more is held
pub loop-b-preserved : goal.loop-b-preserved
loop-b-preserved c =
    let h = c.loop-b.blocks in
    let new = c.add.new.self in
    let words = c.args.ready.now.words in
    let held = c.args.ready.now.held in
    let i = c.loop-b.b-index in
    let none : Block = record { first_word = 0; words = 0 } in
    let same = c.held-b-items.ensures.held in
    let within : i < length held = subst (λ xs. i < length xs) same c.loop-b-test.true in
    let adds = subst (λ xs. AddsTo (at_mark h (get_or xs i none).first_word) (held_of h) (held_of new)) same c.add.ensures.held in (
      knows_same words h new (capacity_of (slice_index words)) c.add.ensures.start c.add.ensures.words c.loop-b.invariant.0,
      next_held words held i none h c.held-b-items.ensures.ready within c.loop-b.invariant.0 new c.loop-b.invariant.1 adds,
    )

-- now all are
pub returns : goal.returns
returns c =
    let held = c.args.ready.now.held in
    let i = c.loop-b.b-index in
    let items = ap length c.held-b-items.ensures.held in
    let past = c.loop-b-test.false in
    let most = c.loop-b.auto.b-index-end in
    let all : i ≡ length held = omega arith in
    all_held c.args.ready.now.words held c.loop-b.blocks c.loop-b.invariant.0 (subst (λ n. HoldsFirst held n c.loop-b.blocks) all c.loop-b.invariant.1)
