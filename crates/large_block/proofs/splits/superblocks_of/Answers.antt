use Rattle.std.proofs.Common.{ℕ, ◌*◌, ap, sym, ◌∙◌, arith}
use Rattle.heap_model.specs.Geometry.{largest_capacity_fits, superblock_of}
use Rattle.core_model.specs.Effects.{span_count}
use Rattle.large_block.proofs.SplitLemmas.{block_small, counted, large, large_held, large_inside}
use Rattle.large_block.proofs.splits.superblocks_of.Goals as goal

pub overflow_mul-block : goal.overflow_mul-block
overflow_mul-block c = let small = block_small c.args.seat.now.view c.recall_soundness.ensures c.args.block c.requires.held in
    let most = c.recall_soundness.ensures.sound.good.small in omega (arith, largest_capacity_fits)

pub block-held-requires-clause-held : goal.block-held-requires-clause-held
block-held-requires-clause-held c = (
  large c.args.seat.now.view c.recall_soundness.ensures c.args.block c.requires.held,
  large_held c.args.seat.now.view c.recall_soundness.ensures c.args.block c.requires.held,
  ap (λ (n : ℕ). 8 * n) (sym c.requires.held.first),
)

pub returns-clause-count : goal.returns-clause-count
returns-clause-count c =
    counted c.args.seat.now.view c.recall_soundness.ensures c.args.block c.requires.held c.block-held.result c.block-held.ensures.only
    ∙ ap (λ (d : ℕ). span_count d c.args.seat.now.view.large)
    (sym (c.superblock_of.ensures ∙ ap (λ (n : ℕ). superblock_of n c.args.block) (c.new-geometry.ensures ∙ c.capacity.ensures)))

pub returns-clause-some : goal.returns-clause-some
returns-clause-some c = let n = counted c.args.seat.now.view c.recall_soundness.ensures c.args.block c.requires.held c.block-held.result
    c.block-held.ensures.only in
    let some = c.requires.held.held in omega arith

pub returns-clause-inside : goal.returns-clause-inside
returns-clause-inside c = let n = counted c.args.seat.now.view c.recall_soundness.ensures c.args.block c.requires.held c.block-held.result
    c.block-held.ensures.only in
    let inside = large_inside c.args.seat.now.view c.recall_soundness.ensures c.args.block c.requires.held in
    let first = c.superblock_of.ensures in let of = c.new-geometry.ensures in let at = c.capacity.ensures in omega arith
