-- The most blocks of a superblock, and the most tickets that rows of steps draw, each rounded up.
use Rattle.std.specs.Prelude.{ℕ}

-- the blocks of a superblock of the smallest class, of 16 bytes each
abbrev pub most_blocks : ℕ
most_blocks = 4096

-- chaining the blocks of a superblock: a store for each but the last
abbrev pub most_chain_draws : ℕ
most_chain_draws = 4100

-- cutting a superblock: three for its info, the chain, and one for its anchor
abbrev pub most_cut_draws : ℕ
most_cut_draws = 4200

-- filling a cache: eight for each superblock in the list of the class, of at most 4,096, and two superblocks cut
abbrev pub most_refill_draws : ℕ
most_refill_draws = 41200

-- a request of a class: its cache is filled, and the first block loaded
abbrev pub most_small_draws : ℕ
most_small_draws = 41201

-- making superblocks that were never taken a large block: a look at `used`, and three each to make `used` and the info durable
abbrev pub most_join_draws : ℕ
most_join_draws = 7

-- giving a cache back: nine for each of its blocks
abbrev pub most_flush_draws : ℕ
most_flush_draws = 36864

-- a free: the block's link and a flush, or four for each superblock of a large block, of at most 4,096
abbrev pub most_free_draws : ℕ
most_free_draws = 40000
