-- Where each superblock and each free block of a running heap is.
use Rattle.std.specs.Prelude.{ℕ, cond, nat_eq, List}
use Rattle.heap_model.specs.Counting.{one_if}

-- where a superblock is: in a list, in none since no block of its chain is free, taken by a held large block, or never taken
pub data Place : Type 0 where
  in_list : ℕ → Place
  is_full : Place
  in_large : Place
  is_new : Place

-- where all superblocks are, and their free blocks
pub record Shape : Type 0 where
  pub place : ℕ → Place
  -- the descriptors of each list, the free blocks that each superblock's anchor leads to, and those that the cache of each class has
  pub listed : ℕ → List ℕ
  pub chain : ℕ → List ℕ
  pub cached : ℕ → List ℕ
  -- where the cache of each class begins
  pub start : ℕ → ℕ

-- 1 where the place is that list
abbrev pub stands_in : Place → ℕ → ℕ
stands_in (in_list at) list = one_if (nat_eq at list)
stands_in is_full list = 0
stands_in in_large list = 0
stands_in is_new list = 0

-- the function with another value at one number
abbrev pub with_at : {A : Type 0} → (ℕ → A) → ℕ → A → ℕ → A
with_at f at value n = cond (nat_eq n at) value (f n)
