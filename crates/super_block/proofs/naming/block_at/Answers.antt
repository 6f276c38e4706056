use Rattle.std.proofs.Common.{◌<◌, ◌*◌, ap, subst, sym, arith}
use Rattle.heap_model.specs.Geometry.{largest_capacity_fits}
use Rattle.super_block.proofs.NamingLemmas.{block_offset}
use Rattle.super_block.proofs.naming.block_at.Goals as goal

-- how far behind its superblock's start the block begins
within : (c : goal.After-start) → c.args.index * c.class_division-words.result.words < 8192
within c = subst (λ w. c.args.index * w < 8192) (sym c.class_division-words.ensures.words)
    (block_offset c.args.class.number c.args.index c.args.class.is c.requires.index)

pub overflow_mul-result : goal.overflow_mul-result
overflow_mul-result c = let inside = within c in omega arith

pub overflow_add-result : goal.overflow_add-result
overflow_add-result c = let inside = within c in omega (arith, largest_capacity_fits)

pub returns : goal.returns
returns c = record {
  below = c.requires.index;
  at = let same = ap (λ w. c.args.index * w) c.class_division-words.ensures.words in omega arith;
  size = c.class_division-words.ensures.words;
}
