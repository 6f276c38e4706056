-- Runs of blocks: those that follow one another in a cache and lie in one superblock.
use Rattle.std.specs.Prelude.{ℕ, ◌+◌, cond, nat_eq, List, [], ◌∷◌}
use Rattle.heap_model.specs.Geometry.{superblock_of}

-- how many runs these blocks are: the first block begins one, and so does each that lies in another superblock than the block before it
abbrev pub runs_of : ℕ → List ℕ → ℕ
runs_of capacity [] = 0
runs_of capacity (block ∷ []) = 1
runs_of capacity (block ∷ next ∷ blocks) = cond (nat_eq (superblock_of capacity block) (superblock_of capacity next)) 0 1 + runs_of capacity
    (next ∷ blocks)
