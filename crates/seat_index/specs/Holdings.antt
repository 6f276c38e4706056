-- How a block is held, by a seat or by a carrier alone, and what a seat keeps of its own words once the block goes or comes.
use Rattle.std.specs.Prelude.{◌≡◌, ℕ, ◌+◌, ◌*◌, ◌<◌, ◌≤◌, false, true, [], ◌∷◌, set, slice_set, length}
use Rattle.heap_model.specs.declared.block.Block.{Block}
use Rattle.heap_model.specs.Counting.{times, total}
use Rattle.heap_model.specs.Geometry.{start_word, superblock_words, superblock_of}
use Rattle.heap_model.specs.Sizes.{IsClass, words_of_class}
use Rattle.core_model.specs.Effects.{span_count}
use Rattle.core_model.specs.View.{View, of_class}
use Rattle.seat_index.specs.declared.owned.Holding.{Holding}
use Rattle.seat_index.specs.declared.owned.Holding.TheVariants as holding
use Rattle.seat_index.specs.declared.owned.Ownership.TheVariants as ownership
use Rattle.seat_index.specs.declared.owned.Owned.{Owned}
use Rattle.seat_index.specs.Changed.{IsLargeIn}
use Rattle.seat_index.specs.Owned.{HaveOwnership}

-- a small block of the class
pub record IsSmallOf (b : Block) (class : ℕ) : Type 0 where
  pub is_class : IsClass class
  pub words : b.words ≡ words_of_class class

-- a large block of n superblocks from d on
pub record IsLargeOf (capacity : ℕ) (b : Block) (d n : ℕ) : Type 0 where
  pub some : 1 ≤ n
  pub first : b.first_word ≡ start_word capacity d
  pub words : b.words ≡ superblock_words * n

-- it stands among the seat's held blocks
pub record HoldsSmall (v : View) (b : Block) (class : ℕ) : Type 0 where
  pub is : IsSmallOf b class
  pub held : 0 < times b.first_word (of_class v.small class)

-- it is one of the seat's large blocks
pub record HoldsLarge (v : View) (b : Block) (d n : ℕ) : Type 0 where
  pub is : IsLargeOf v.setup.capacity b d n
  pub held : span_count d v.large ≡ n

-- the seat holds the block so
abbrev pub Holds : View → Block → Holding → Type 0
Holds v b (holding.Small class) = HoldsSmall v b class
Holds v b (holding.Large d n) = HoldsLarge v b d n

-- the small block is held once, in the list of its class, and nothing else is
pub record HoldsOneSmall (u : View) (b : Block) (class : ℕ) : Type 0 where
  pub is : IsSmallOf b class
  pub once : (n : ℕ) → total (times n) u.small ≡ times n (b.first_word ∷ [])
  pub in_class : (of n : ℕ) → 0 < times n (of_class u.small of) → of ≡ class
  pub none_large : u.large ≡ []

-- the large block is held once, and nothing else is
pub record HoldsOneLarge (u : View) (b : Block) (d n : ℕ) : Type 0 where
  pub is : IsLargeOf u.setup.capacity b d n
  pub once : u.large ≡ record { first = d; count = n } ∷ []
  pub none_small : (x : ℕ) → total (times x) u.small ≡ 0

-- it holds this block so, and no other
abbrev pub HoldsAlone : View → Block → Holding → Type 0
HoldsAlone u b (holding.Small class) = HoldsOneSmall u b class
HoldsAlone u b (holding.Large d n) = HoldsOneLarge u b d n

-- the lists are long enough for what tells of the block
abbrev pub CanLose : Block → Holding → Owned → Type 0
CanLose b (holding.Small class) o = b.first_word < length o.blocks
CanLose b (holding.Large d n) o = d + n ≤ length o.ownerships.items

-- the block begins in a superblock of the image, and the lists reach there
pub record CanGainSmall (b : Block) (capacity : ℕ) (o : Owned) : Type 0 where
  pub from : start_word capacity 0 ≤ b.first_word
  pub word : b.first_word < length o.blocks
  pub superblock : superblock_of capacity b.first_word < length o.classes.items

-- the lists are long enough for a block that comes
abbrev pub CanGain : Block → Holding → ℕ → Owned → Type 0
CanGain b (holding.Small class) capacity o = CanGainSmall b capacity o
CanGain b (holding.Large d n) capacity o = (1 ≤ n) × (d + n ≤ length o.ownerships.items)

-- nothing of n superblocks is owned any more
pub record IsLost (o o' : Owned) (d n : ℕ) : Type 0 where
  pub others : o' ≡ record o { ownerships = o'.ownerships }
  pub owning : HaveOwnership o.ownerships.items o'.ownerships.items d n ownership.Nothing

-- what is kept once the block is not the seat's
abbrev pub HasLost : Block → Holding → Owned → Owned → Type 0
HasLost b (holding.Small class) o o' = o' ≡ record o { blocks = slice_set o.blocks b.first_word false }
HasLost b (holding.Large d n) o o' = IsLost o o' d n

-- a small block of the class begins at the word, in superblock d
pub record IsGained (o o' : Owned) (word d class : ℕ) : Type 0 where
  pub others : o' ≡ record o { blocks = o'.blocks; classes = o'.classes }
  pub blocks : o'.blocks ≡ slice_set o.blocks word true
  pub classes : o'.classes.items ≡ set o.classes.items d class

-- what is kept once it is
abbrev pub HasGained : Block → Holding → ℕ → Owned → Owned → Type 0
HasGained b (holding.Small class) capacity o o' = IsGained o o' b.first_word (superblock_of capacity b.first_word) class
HasGained b (holding.Large d n) capacity o o' = IsLargeIn o o' d n
