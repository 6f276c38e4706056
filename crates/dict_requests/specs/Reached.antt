-- What a seat's own roots reach among the blocks that it holds, by any value that a word may have and by what loads see.
use Rattle.std.specs.Prelude.{◌≡◌, ◌≢◌, ℕ, ◌+◌, ◌<◌, ◌⊎◌, Some, Contains}
use Rattle.heap_model.specs.declared.block.Block.{Block}
use Rattle.heap_model.specs.Geometry.{root_word}
use Rattle.heap_model.specs.Reach.{Closure}
use Rattle.heap_seat.specs.View.{View, kind_of}
use Rattle.heap_seat.specs.Words.{MayRead}
use Rattle.dict_model.specs.Links.{shards, IsLink}
use Rattle.dict_model.specs.Shards.{LeadsTo}

-- which values a word may have
abbrev pub Reading : Type 1
Reading = ℕ → ℕ → Type 0

-- what loads see, where that is known
abbrev pub Sees : View → Reading
Sees v word value = v.volatile word ≡ Some value

-- a root of the seat leads to a held block, as one of the kind that the seat sees for it
pub record RootReaches (reads : Reading) (v : View) (root : ℕ) (b : Block) (kind : ℕ) : Type 0 where
  pub owned : Contains v.roots root
  pub kind_is : kind ≡ kind_of v root
  pub value : ℕ
  pub read : reads (root_word root) value
  pub leads : LeadsTo (Contains v.held) value b

-- a link of the one block leads to the other, which is held
pub record LinkReaches (reads : Reading) (v : View) (a : Block) (from : ℕ) (b : Block) (kind : ℕ) : Type 0 where
  pub position : ℕ
  pub is_link : IsLink from a.words position kind
  pub value : ℕ
  pub read : reads (a.first_word + position) value
  pub leads : LeadsTo (Contains v.held) value b

-- the root reaches the block as one of the kind, by values of links that are read so
abbrev pub ReachesBy : (View → Reading) → View → ℕ → Block → ℕ → Type 0
ReachesBy reads v root = Closure (RootReaches (reads v) v root) (LinkReaches (reads v) v)

-- the root reaches the block as one of the kind, whatever of its two values each word has
abbrev pub MayReach : View → ℕ → Block → ℕ → Type 0
MayReach = ReachesBy MayRead

-- it does by what loads see
abbrev pub Reaches : View → ℕ → Block → ℕ → Type 0
Reaches = ReachesBy Sees

-- null, or a pointer to a held block
abbrev pub IsNullOrHeld : View → ℕ → Type 0
IsNullOrHeld v value = (value ≡ 0) ⊎ ((b : Block) × LeadsTo (Contains v.held) value b)

-- each word that may be followed from an own root is null or leads to a held block, and no block is reached both from a
-- root of a shard and from another root
pub record ReachesOnlyHeld (v : View) : Type 0 where
  pub roots : (root value : ℕ) → Contains v.roots root → MayRead v (root_word root) value → IsNullOrHeld v value
  pub links : (root : ℕ) (a : Block) (from position kind value : ℕ) → MayReach v root a from → IsLink from a.words position kind
      → MayRead v (a.first_word + position) value → IsNullOrHeld v value
  pub alone : (shard root : ℕ) (b : Block) (kind other : ℕ) → shard < shards → shard ≢ root
      → MayReach v shard b kind → MayReach v root b other → ⊥

-- and each held block is reached by what loads see
pub record ReachesAllHeld (v : View) : Type 0 where
  pub only : ReachesOnlyHeld v
  pub all : (b : Block) → Contains v.held b → (root : ℕ) × (kind : ℕ) × Reaches v root b kind

-- and each held block but one is
pub record ReachesAllHeldBut (loose : Block) (v : View) : Type 0 where
  pub only : ReachesOnlyHeld v
  pub all : (b : Block) → Contains v.held b → b ≢ loose → (root : ℕ) × (kind : ℕ) × Reaches v root b kind
