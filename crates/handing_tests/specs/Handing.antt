-- What the seats of the tests are, and what they hand.
use Rattle.std.specs.Prelude.{◌≡◌, ◌<◌, ◌-◌, ℕ, All, None, List, [], Contains, get_or, length}
use mathlib.Core.Option.{some}
use lib.ListN.{get_elem?}
use Rattle.heap_model.specs.Counting.{total}
use Rattle.heap_model.specs.Geometry.{roots}
use Rattle.atomic_table.specs.Seated.{TableId}
use Rattle.core_model.specs.View.{View, no_role, role}
use Rattle.heap_table.specs.AtTable.{SharedView}
use Rattle.heap_table.specs.Rule.{setup_for}
use Rattle.heap_rule.specs.Carried.{CarrierView}
use Rattle.heap_rule.specs.Seated.{IsSeatOf, SeatView}
use Rattle.heap_rule.specs.Seats.{views_of}
use Rattle.seat_costs.specs.Idle.{HasShortCaches, IsIdle}
use Rattle.seat_model.specs.CacheState.{CacheState}

-- a seat of a heap that was opened just now may be one that allocates
pub record IsFresh (v : View) : Type 0 where
  pub going : v.stopped ≡ None
  pub idle : IsIdle v
  pub short : HasShortCaches v
  pub role_is : role v ≡ no_role

-- it is such a seat of this heap
abbrev pub IsFreshSeatOf : SharedView → SeatView → Type 0
IsFreshSeatOf shared seat = IsSeatOf shared seat × IsFresh seat.view

-- it has each root
pub record HasAllRoots (owned : List ℕ) : Type 0 where
  pub each : (root : ℕ) → root < roots → Contains owned root

-- the last of these seats has each root
abbrev pub HasLastAllRoots : List SeatView → Type 0
HasLastAllRoots seats = (seat : SeatView) → get_or seats (length seats - 1) seat ≡ seat → HasAllRoots seat.view.roots

-- a seat that offered and accepted so many blocks
pub record HasHanded (offers accepts : ℕ) (v : View) : Type 0 where
  pub seat : v.carries ≡ 0
  pub offers_are : v.offers ≡ offers
  pub accepts_are : v.accepts ≡ accepts

-- these seats did so in all
pub record AreCounted (offers accepts : ℕ) (seats : List SeatView) : Type 0 where
  pub offers_are : total (λ (v : View). v.offers) (views_of seats) ≡ offers
  pub accepts_are : total (λ (v : View). v.accepts) (views_of seats) ≡ accepts

-- a seat of this heap
pub record IsHandOf (shared : SharedView) (s : CacheState) : Type 0 where
  pub table : s.table ≡ shared.table
  pub setup : s.view.setup ≡ setup_for shared.opening

-- between two calls it is the same seat, with its roots
pub record IsSameSeat (s t : CacheState) : Type 0 where
  pub table : t.table ≡ s.table
  pub setup : t.view.setup ≡ s.view.setup
  pub roots_are : t.view.roots ≡ s.view.roots

-- the seat again
pub record IsBackFrom (s : CacheState) (seat : SeatView) : Type 0 where
  pub table : seat.table ≡ s.table
  pub view : seat.view ≡ s.view

-- the carriers are at this table
abbrev pub AreAt : TableId → List CarrierView → Type 0
AreAt table carriers = All (λ (c : CarrierView). c.table ≡ table) carriers

-- the same, by index
abbrev pub AreAllAt : TableId → List CarrierView → Type 0
AreAllAt table carriers = (j : ℕ) (x : CarrierView) → get_elem? carriers j ≡ some x → x.table ≡ table

-- some table
abbrev pub no_table : TableId
no_table = record { words = 0; slots = 0; views_name = 0; atom = 0; block = 0; offset = 0; slot_names = [] }
