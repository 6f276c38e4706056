-- Worked examples by computation: the runs of a small cache.
use Rattle.std.specs.Prelude.{◌≡◌, [], ◌∷◌, refl}
use Rattle.cache_flush.specs.Runs.{runs_of}

-- class 20 in a heap of two superblocks: two blocks of superblock 0, one of superblock 1, and one more of superblock 0
pub three_runs : runs_of 2 (1080 ∷ 2872 ∷ 9272 ∷ 4664 ∷ []) ≡ 3
three_runs = refl

-- in another order they are two, or four where there is one more
pub two_runs : runs_of 2 (1080 ∷ 4664 ∷ 2872 ∷ 9272 ∷ []) ≡ 2
two_runs = refl

pub four_runs : runs_of 2 (1080 ∷ 9272 ∷ 2872 ∷ 11064 ∷ []) ≡ 4
four_runs = refl

-- all blocks of one superblock are one
pub one_run : runs_of 2 (6456 ∷ 4664 ∷ 2872 ∷ 1080 ∷ []) ≡ 1
one_run = refl

pub no_run : runs_of 2 [] ≡ 0
no_run = refl
