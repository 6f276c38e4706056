-- A change of what a seat keeps to tell its own words, which goes with a shift.
use Rattle.std.specs.Prelude.{◌≡◌, ℕ, ◌+◌, ◌<◌, ◌≤◌, true, List, [], ◌∷◌, ◌++◌, set, length}
use Rattle.std.specs.Vec.{vec_capacity}
use Rattle.heap_model.specs.Counting.{times}
use Rattle.core_model.specs.Effects.{class_blocks, rest_of}
use Rattle.seat_index.specs.declared.owned.Ownership.{Ownership}
use Rattle.seat_index.specs.declared.owned.Ownership.TheVariants as ownership
use Rattle.seat_index.specs.declared.owned.Change.{Change}
use Rattle.seat_index.specs.declared.owned.Change.TheVariants as change
use Rattle.seat_index.specs.declared.owned.Owned.{Owned}
use Rattle.seat_index.specs.Owned.{IsMarking, HaveOwnership}
use Rattle.seat_index.specs.Stacks.{HasStack, IsRestacked}

-- a superblock of the image that may be cut for the class
pub record CanCutIn (o : Owned) (capacity d class : ℕ) : Type 0 where
  pub below : d < capacity
  pub classes : d < length o.classes.items
  pub ownerships : d < length o.ownerships.items
  pub blocks : (b : ℕ) → 0 < times b (class_blocks capacity class d) → b < length o.blocks
  pub stack : HasStack o.stacks.items class
  pub fits : length o.blocks < 2147483648

-- the class has a stack, and the batch has room; a block's first word fits 32 bits
pub record CanLiftIn (o : Owned) (class block : ℕ) : Type 0 where
  pub below : class < length o.stacks.items
  pub room : length o.batch.items < vec_capacity o.batch
  pub fits : block < 4294967296

-- when a change may be done
abbrev pub CanChange : Change → ℕ → Owned → Type 0
CanChange (change.Allocated class first) capacity o = class < length o.stacks.items
CanChange (change.Freed class block) capacity o = HasStack o.stacks.items class × (block < 4294967296)
CanChange (change.Lifted class block first) capacity o = CanLiftIn o class block
CanChange (change.Cut d class) capacity o = CanCutIn o capacity d class.number
CanChange (change.Large d n) capacity o = (1 ≤ n) × (d + n ≤ length o.ownerships.items)
CanChange (change.Split d n) capacity o = d + n ≤ length o.ownerships.items

-- one cache is another
pub record IsRecached (o o' : Owned) (class : ℕ) (change : List ℕ → List ℕ) : Type 0 where
  pub others : o' ≡ record o { stacks = o'.stacks }
  pub stacks : IsRestacked o.stacks.items o'.stacks.items class change

-- the first block of a cache is behind the batch
pub record IsLifted (o o' : Owned) (class block : ℕ) : Type 0 where
  pub others : o' ≡ record o { batch = o'.batch; stacks = o'.stacks }
  pub batch : o'.batch.items ≡ o.batch.items ++ block ∷ []
  pub room : vec_capacity o'.batch ≡ vec_capacity o.batch
  pub stacks : IsRestacked o.stacks.items o'.stacks.items class rest_of

-- all blocks of the superblock are in the cache of the class, and no claim is left of it
pub record IsCutIn (o o' : Owned) (capacity d class : ℕ) : Type 0 where
  pub others : o' ≡ record o { blocks = o'.blocks; classes = o'.classes; ownerships = o'.ownerships; stacks = o'.stacks }
  pub blocks : IsMarking o.blocks o'.blocks (class_blocks capacity class d) true
  pub classes : o'.classes.items ≡ set o.classes.items d class
  pub ownerships : o'.ownerships.items ≡ set o.ownerships.items d ownership.Nothing
  pub stacks : IsRestacked o.stacks.items o'.stacks.items class (λ cache. class_blocks capacity class d)

-- a large block takes n superblocks from d on
pub record IsLargeIn (o o' : Owned) (d n : ℕ) : Type 0 where
  pub others : o' ≡ record o { ownerships = o'.ownerships }
  pub rest : List Ownership
  pub owning : HaveOwnership o.ownerships.items rest d n (ownership.Large 0)
  pub first : o'.ownerships.items ≡ set rest d (ownership.Large n)

-- these superblocks are claimed without a class
pub record IsSplitIn (o o' : Owned) (d n : ℕ) : Type 0 where
  pub others : o' ≡ record o { ownerships = o'.ownerships }
  pub owning : HaveOwnership o.ownerships.items o'.ownerships.items d n ownership.Unclassed

-- what a change leaves
abbrev pub IsChanged : Change → ℕ → Owned → Owned → Type 0
IsChanged (change.Allocated class first) capacity o o' = IsRecached o o' class rest_of
IsChanged (change.Freed class block) capacity o o' = IsRecached o o' class (λ cache. block ∷ cache)
IsChanged (change.Lifted class block first) capacity o o' = IsLifted o o' class block
IsChanged (change.Cut d class) capacity o o' = IsCutIn o o' capacity d class.number
IsChanged (change.Large d n) capacity o o' = IsLargeIn o o' d n
IsChanged (change.Split d n) capacity o o' = IsSplitIn o o' d n
