-- What a seat has of each superblock, as it is kept by superblock, and how that fits the claims and large blocks of its view.
use Rattle.std.specs.Prelude.{◌≡◌, ℕ, zero, suc, ◌+◌, ◌<◌, ◌≤◌, cond, nat_eq, List, get_or, length}
use Rattle.heap_model.specs.Counting.{times}
use Rattle.seat_state.specs.declared.superblocks.SuperblockUsage.{SuperblockUsage}
use Rattle.seat_state.specs.declared.superblocks.SuperblockUsage.TheVariants as usage
use Rattle.seat_state.specs.declared.superblocks.SuperblockOwner.{SuperblockOwner}
use Rattle.core_model.specs.View.{Span, Claim, times_classed, times_large}
use Rattle.core_model.specs.Effects.{claim_class, span_count}

-- what seat i has of the superblock
abbrev pub usage_for : ℕ → SuperblockOwner → SuperblockUsage
usage_for i o = cond (nat_eq o.seat i) o.usage usage.Nothing

-- how often a superblock of which a seat has this is claimed without a class, and is no part of a split
abbrev pub raw_in : SuperblockUsage → ℕ
raw_in usage.Raw = 1
raw_in x = 0

-- how often it is claimed since a split
abbrev pub split_in : SuperblockUsage → ℕ
split_in usage.Split = 1
split_in x = 0

-- how often it is claimed and being cut
abbrev pub cutting_in : SuperblockUsage → ℕ
cutting_in usage.Cutting = 1
cutting_in x = 0

-- how often it is claimed with a class
abbrev pub classed_in : SuperblockUsage → ℕ
classed_in (usage.Classed class) = 1
classed_in x = 0

-- the class that it is claimed with; 0 of none
abbrev pub class_in : SuperblockUsage → ℕ
class_in (usage.Classed class) = class
class_in x = 0

-- how often a large block takes it
abbrev pub large_in : SuperblockUsage → ℕ
large_in (usage.Large count) = 1
large_in x = 0

-- how many superblocks the large block takes that begins there
abbrev pub count_in : SuperblockUsage → ℕ
count_in (usage.Large count) = count
count_in x = 0

-- what a seat has of a superblock that comes from a list
abbrev pub listed : ℕ → SuperblockUsage
listed zero = usage.Raw
listed (suc n) = usage.Classed (suc n)

-- what a seat has of its own superblock after a store to the anchor
abbrev pub anchored : ℕ → SuperblockUsage
anchored zero = usage.Raw
anchored (suc n) = usage.Cutting

-- a superblock of which no seat has anything
abbrev pub no_superblock : SuperblockOwner
no_superblock = record { seat = 0; usage = usage.Nothing }

-- a superblock is the seat's as it is said
pub record IsUsage (d : ℕ) (x : SuperblockUsage) (raw split cutting : List ℕ) (classed : List Claim) (large : List Span) : Type 0 where
  pub is_raw : times d raw ≡ raw_in x
  pub is_split : times d split ≡ split_in x
  pub is_cutting : times d cutting ≡ cutting_in x
  pub is_classed : times_classed d classed ≡ classed_in x
  pub class : claim_class d classed ≡ class_in x
  pub is_large : times_large d large ≡ large_in x
  pub count : span_count d large ≡ count_in x

-- its superblocks
abbrev pub HasSuperblocks : List SuperblockOwner → ℕ → List ℕ → List ℕ → List ℕ → List Claim → List Span → Type 0
HasSuperblocks owners i raw split cutting classed large = (d : ℕ)
    → IsUsage d (usage_for i (get_or owners d no_superblock)) raw split cutting classed large

-- the owners of n superblocks from one on are another, and all others stay
pub record IsRange (old new : List SuperblockOwner) (from n : ℕ) (owner : SuperblockOwner) : Type 0 where
  pub long : length new ≡ length old
  pub inside : (d : ℕ) → from ≤ d → d < from + n → get_or new d no_superblock ≡ owner
  pub outside : (d : ℕ) → (from ≤ d → d < from + n → ⊥) → get_or new d no_superblock ≡ get_or old d no_superblock
