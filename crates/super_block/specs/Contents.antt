-- What a heap at rest is seen as.
use Rattle.std.specs.Prelude.{ℕ, List}
use Rattle.heap_model.specs.declared.block.Block.{Block}

-- the words of a heap, and its held blocks in order of offset
pub record Contents : Type 0 where
  pub words : List ℕ
  pub held : List Block
