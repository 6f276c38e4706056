-- What the seats of the tests are at first, and what they hold.
use Rattle.std.specs.Prelude.{◌≡◌, ◌≢◌, ◌<◌, ◌%◌, ⊤, ℕ, All, None, Some, Option, List, Contains, get_or, length}
use Rattle.heap_model.specs.declared.block.Block.{Block}
use Rattle.heap_model.specs.Geometry.{roots}
use Rattle.core_model.specs.View.{View, no_role, role}
use Rattle.heap_table.specs.AtTable.{SharedView}
use Rattle.heap_rule.specs.Seated.{IsSeatOf, SeatView}
use Rattle.seat_costs.specs.Idle.{HasShortCaches, IsIdle}
use Rattle.seat_model.specs.CacheState.{held_blocks}
use Rattle.size_table.specs.declared.size_class.SizeClass.{SizeClass}

-- a chance that may give any number
abbrev pub anything : {C : Type 0} → C → ℕ → C → Type 0
anything old number new = ⊤

-- a seat of a heap that was opened just now may be one that allocates
pub record IsFresh (v : View) : Type 0 where
  pub going : v.stopped ≡ None
  pub idle : IsIdle v
  pub short : HasShortCaches v
  pub role_is : role v ≡ no_role

-- it is such a seat of this heap
abbrev pub IsFreshSeatOf : SharedView → SeatView → Type 0
IsFreshSeatOf shared seat = IsSeatOf shared seat × IsFresh seat.view

-- a seat of this heap that has offered and accepted nothing
pub record IsBackFrom (shared : SharedView) (seat : SeatView) : Type 0 where
  pub of : IsSeatOf shared seat
  pub role_is : role seat.view ≡ no_role

-- each block that was given is held
pub record Holds (held given : List Block) : Type 0 where
  pub each : (b : Block) → Contains given b → Contains held b

-- the block is none of these
abbrev pub IsNoneOf : Block → List Block → Type 0
IsNoneOf b given = (a : Block) → Contains given a → a ≢ b

-- of so many seats, this one has the roots that are its own in turn
abbrev pub HasRootsOf : ℕ → ℕ → SeatView → Type 0
HasRootsOf number count seat = (root : ℕ) → root < roots → root % count ≡ number → Contains seat.view.roots root

-- each of these seats has its roots
abbrev pub HaveRoots : ℕ → List SeatView → Type 0
HaveRoots count seats = (i : ℕ) (seat : SeatView) → i < length seats → get_or seats i seat ≡ seat → HasRootsOf i count seat

-- and it holds those of the blocks that were held at the opening
abbrev pub HasBlocksOf : ℕ → ℕ → List Block → View → Type 0
HasBlocksOf number count held v = (i : ℕ) (b : Block) → i < length held → get_or held i b ≡ b → i % count ≡ number → Contains (held_blocks v) b

-- each of these seats has its blocks
abbrev pub HaveBlocks : ℕ → List Block → List SeatView → Type 0
HaveBlocks count held seats = (i : ℕ) (seat : SeatView) → i < length seats → get_or seats i seat ≡ seat → HasBlocksOf i count held seat.view

-- these are roots of that seat
abbrev pub AreRootsOf : ℕ → ℕ → List ℕ → Type 0
AreRootsOf number count owned = All (λ root. (root < roots) × (root % count ≡ number)) owned

-- each of these roots is among those of the seat
pub record OwnsRoots (owned all : List ℕ) : Type 0 where
  pub each : (root : ℕ) → Contains owned root → Contains all root

-- what a thread begins with: a seat of this heap that was opened just now, and roots of its own
pub record IsJobOf (shared : SharedView) (owned : List ℕ) (seat : SeatView) : Type 0 where
  pub fresh : IsFreshSeatOf shared seat
  pub owns : OwnsRoots owned seat.view.roots

-- the list of a class, or that of the free superblocks, which stands before those
abbrev pub list_of : Option SizeClass → ℕ
list_of None = 0
list_of (Some class) = class.number
