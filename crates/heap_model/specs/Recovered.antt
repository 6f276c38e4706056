-- What recovery gives back: the blocks that are not kept, the free superblocks, and what draining a class then gives.
-- `kept` is what stays held: of an image what its roots reach, of a heap its held blocks.
use Rattle.std.specs.Prelude.{◌≡◌, ℕ, ◌+◌, ◌*◌, ◌<◌, ◌≤◌, List, Contains, AllPairs}
use Rattle.heap_model.specs.declared.block.Block.{Block}
use Rattle.heap_model.specs.Geometry.{start_word}
use Rattle.heap_model.specs.Sizes.{IsClass, words_of_class, blocks_of}
use Rattle.heap_model.specs.Blocks.{Layout}

-- the block has a word in superblock d
pub record HasPartIn (capacity : ℕ) (b : Block) (d : ℕ) : Type 0 where
  pub begins : b.first_word < start_word capacity (d + 1)
  pub ends : start_word capacity d < b.first_word + b.words

-- a superblock that has been taken, and holds no part of a kept block
pub record IsFreeSuperblock (l : Layout) (kept : Block → Type 0) (d : ℕ) : Type 0 where
  pub taken : d < l.used
  pub empty : (b : Block) → kept b → HasPartIn l.capacity b d → ⊥

-- b is block `index` of superblock d when that is cut for the class
pub record IsBlockOfClass (capacity class d index : ℕ) (b : Block) : Type 0 where
  pub below : index < blocks_of class
  pub at : b.first_word ≡ start_word capacity d + index * words_of_class class
  pub size : b.words ≡ words_of_class class

-- what allocating in the class until nothing is left must give: the unkept blocks of the class beside kept ones, and
-- all blocks of the class in the free superblocks and in those never taken
pub data IsDrained (l : Layout) (kept : Block → Type 0) (class : ℕ) : Block → Type 0 where
  beside : (b : Block) (d index : ℕ) → IsClass class → d < l.used → l.info d ≡ class
      → IsBlockOfClass l.capacity class d index b → (kept b → ⊥) → (IsFreeSuperblock l kept d → ⊥) → IsDrained l kept class b
  freed : (b : Block) (d index : ℕ) → IsClass class → IsFreeSuperblock l kept d
      → IsBlockOfClass l.capacity class d index b → IsDrained l kept class b
  fresh : (b : Block) (d index : ℕ) → IsClass class → l.used ≤ d → d < l.capacity
      → IsBlockOfClass l.capacity class d index b → IsDrained l kept class b

-- exactly those of which `is` holds, each once, in ascending order of the key
pub record AreAscending {A : Type 0} (key : A → ℕ) (is : A → Type 0) (xs : List A) : Type 0 where
  pub sound : (x : A) → Contains xs x → is x
  pub complete : (x : A) → is x → Contains xs x
  pub ascending : AllPairs (λ x y. key x < key y) xs
