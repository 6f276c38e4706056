-- What contracts see of owners: a seat for each held block, and for each root.
use Rattle.std.specs.Prelude.{ℕ, List}

-- the owners of the held blocks, and of the roots, in their order
pub record OwnerLists : Type 0 where
  pub held : List ℕ
  pub roots : List ℕ
