-- How superblocks are divided into blocks, as the code keeps it.
use Rattle.std.specs.Prelude.{◌≡◌, ℕ, ◌+◌, ◌*◌, ◌<◌, ◌≤◌, List, Option, None, MatchOption, IfSome, length, slice_index_or}
use Rattle.heap_model.specs.Blocks.{Layout, Begins}
use Rattle.heap_model.specs.Geometry.{start_word, superblock_words, largest_capacity}
use Rattle.super_block.specs.declared.division.Division.{Division}
use Rattle.super_block.specs.declared.naming.Place.{Place}

-- superblock d begins these blocks
abbrev pub IsDivision : Layout → ℕ → Division → Type 0
IsDivision l d division = Begins l d division.words division.count

-- what superblock d begins, or that it begins none
abbrev pub DividesAs : Layout → ℕ → Option Division → Type 0
DividesAs l d found = MatchOption found ((words count : ℕ) → Begins l d words count → ⊥) (IsDivision l d)

-- what superblock d begins if it has been taken, or that it has not been taken or begins no block
abbrev pub DividesTaken : Layout → ℕ → Option Division → Type 0
DividesTaken l d found = MatchOption found (d < l.used → (words count : ℕ) → Begins l d words count → ⊥)
    (λ division. (d < l.used) × IsDivision l d division)

-- a directory: the capacity, and for each superblock that has been taken what it begins
pub record Divisions : Type 0 where
  pub capacity : ℕ
  pub of : List (Option Division)

-- the list says what each of the first superblocks begins, so many as it is long
pub record DividesFirst (l : Layout) (of : List (Option Division)) (count : ℕ) : Type 0 where
  pub long : length of ≡ count
  pub each : (d : ℕ) → d < count → DividesAs l d (slice_index_or of d None)

-- the directory is that of the superblocks that have been taken
pub record Describes (directory : Divisions) (l : Layout) : Type 0 where
  pub capacity_is : directory.capacity ≡ l.capacity
  pub taken : DividesFirst l directory.of l.used

-- the byte offset is that of this word of this superblock
pub record IsPlaceOf (capacity offset : ℕ) (place : Place) : Type 0 where
  pub at : offset ≡ 8 * (start_word capacity place.superblock + place.within)
  pub inside : place.within < superblock_words

-- the offset lies in a taken superblock that is divided so
pub record IsFound (l : Layout) (offset capacity : ℕ) (place : Place) (division : Division) : Type 0 where
  pub capacity_is : capacity ≡ l.capacity
  pub lies : IsPlaceOf capacity offset place
  pub taken : place.superblock < l.used
  pub divided : IsDivision l place.superblock division

-- superblock d is one of the capacity, and what it begins has words, no more than all superblocks have
pub record FitsIn (capacity d : ℕ) (division : Division) : Type 0 where
  pub below : d < capacity
  pub some : 1 ≤ division.words
  pub few : division.count * division.words ≤ superblock_words * capacity

-- what is begun has room, and the capacity is in range
pub record AreDivisions (capacity : ℕ) (of : List (Option Division)) : Type 0 where
  pub small : capacity ≤ largest_capacity
  pub room : (d : ℕ) → d < length of → IfSome (slice_index_or of d None) (FitsIn capacity d)
