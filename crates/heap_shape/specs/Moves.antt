-- What the shape of a heap is after each row of steps.
use Rattle.std.specs.Prelude.{◌≡◌, ◌≢◌, ℕ, ◌+◌, ◌⊎◌, ◌&&◌, cond, nat_lt, nat_le, List, [], ◌∷◌, ◌++◌, Contains}
use Rattle.heap_model.specs.declared.block.Block.{Block}
use Rattle.heap_shape.specs.Shape.{in_list, is_full, in_large, Shape, with_at}
use Rattle.heap_shape.specs.Standing.{first_of}
use Rattle.heap_shape.specs.Effects.{all_firsts}

-- the first superblock of the class list gave its chain, which begins at `first`, to the cache; ds are the others of the list
abbrev pub after_take : Shape → ℕ → ℕ → List ℕ → ℕ → Shape
after_take s class d ds first = record {
  place = with_at s.place d is_full;
  listed = with_at s.listed class ds;
  chain = with_at s.chain d [];
  cached = with_at s.cached class (s.chain d);
  start = with_at s.start class first;
}

-- the first superblock of the class list, all of whose blocks are free, went to the free list
abbrev pub after_recycle : Shape → ℕ → ℕ → List ℕ → Shape
after_recycle s class d ds = record {
  place = with_at s.place d (in_list 0);
  listed = with_at (with_at s.listed class ds) 0 (d ∷ s.listed 0);
  chain = with_at s.chain d [];
  cached = s.cached;
  start = s.start;
}

-- the first superblock of the free list was cut for the class, and all its blocks are in the cache
abbrev pub after_cut : Shape → ℕ → ℕ → ℕ → List ℕ → Shape
after_cut s capacity class d ds = record {
  place = with_at s.place d is_full;
  listed = with_at s.listed 0 ds;
  chain = with_at s.chain d [];
  cached = with_at s.cached class (all_firsts capacity class d);
  start = with_at s.start class (first_of capacity class d 0);
}

-- the same of a superblock that was never taken
abbrev pub after_fresh : Shape → ℕ → ℕ → ℕ → Shape
after_fresh s capacity class d = record {
  place = with_at s.place d is_full;
  listed = s.listed;
  chain = with_at s.chain d [];
  cached = with_at s.cached class (all_firsts capacity class d);
  start = with_at s.start class (first_of capacity class d 0);
}

-- n superblocks from d on became a large block
abbrev pub after_join : Shape → ℕ → ℕ → Shape
after_join s d n = record {
  place = λ e. cond (nat_le d e && nat_lt e (d + n)) in_large (s.place e);
  listed = s.listed;
  chain = s.chain;
  cached = s.cached;
  start = s.start;
}

-- the cache of the class begins at `first` and has these blocks
abbrev pub with_cache : Shape → ℕ → ℕ → List ℕ → Shape
with_cache s class first words = record s { cached = with_at s.cached class words; start = with_at s.start class first }

-- blocks `given` of the cache went in front of the chain of superblock d, which was in its class list; `rest` stay, from `first` on
abbrev pub after_give : Shape → ℕ → ℕ → List ℕ → List ℕ → ℕ → Shape
after_give s class d given rest first = record {
  place = s.place;
  listed = s.listed;
  chain = with_at s.chain d (given ++ s.chain d);
  cached = with_at s.cached class rest;
  start = with_at s.start class first;
}

-- the same of a superblock that was full, and goes to its class list
abbrev pub after_give_full : Shape → ℕ → ℕ → List ℕ → List ℕ → ℕ → Shape
after_give_full s class d given rest first = record {
  place = with_at s.place d (in_list class);
  listed = with_at s.listed class (d ∷ s.listed class);
  chain = with_at s.chain d given;
  cached = with_at s.cached class rest;
  start = with_at s.start class first;
}

-- the same where all its blocks are given: it goes to the free list
abbrev pub after_give_all : Shape → ℕ → ℕ → List ℕ → List ℕ → ℕ → Shape
after_give_all s class d given rest first = record {
  place = with_at s.place d (in_list 0);
  listed = with_at s.listed 0 (d ∷ s.listed 0);
  chain = with_at s.chain d given;
  cached = with_at s.cached class rest;
  start = with_at s.start class first;
}

-- a superblock of a freed large block went to the free list
abbrev pub after_split : Shape → ℕ → Shape
after_split s d = record {
  place = with_at s.place d (in_list 0);
  listed = with_at s.listed 0 (d ∷ s.listed 0);
  chain = s.chain;
  cached = s.cached;
  start = s.start;
}

-- the blocks are those from before, and this one
pub record AddsTo (b : Block) (old new : List Block) : Type 0 where
  pub has : Contains new b
  pub keeps : (a : Block) → Contains old a → Contains new a
  pub only : (a : Block) → Contains new a → (a ≡ b) ⊎ Contains old a

-- the blocks are those from before, without this one
pub record TakesFrom (b : Block) (old new : List Block) : Type 0 where
  pub gone : Contains new b → ⊥
  pub keeps : (a : Block) → Contains old a → a ≢ b → Contains new a
  pub only : (a : Block) → Contains new a → Contains old a
