use Rattle.std.proofs.Common.{arith}
use Rattle.heap_model.specs.Blocks.{as_large}
use Rattle.super_block.proofs.division.large_division.Goals as goal

pub returns : goal.returns
returns c = as_large c.args.count c.requires.some c.requires.info (omega arith) (λ i low high. c.loop-inner.invariant i low (omega arith))
