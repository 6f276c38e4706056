-- What the threads begin with, and what they leave.
use Rattle.std.specs.Prelude.{◌≡◌, ℕ, None, [], Contains, IsOkAnd, List, OnOk, Result}
use Rattle.heap_model.specs.declared.block.Block.{Block}
use Rattle.heap_model.specs.Sizes.{IsClass}
use Rattle.heap_seat.specs.declared.fault.AllocFault.{AllocFault}
use Rattle.core_model.specs.Held.{IsHeld}
use Rattle.core_model.specs.View.{View, no_role, of_class, role}
use Rattle.heap_table.specs.AtTable.{SharedView}
use Rattle.heap_rule.specs.Seated.{IsSeatOf, SeatView}
use Rattle.first_threads.specs.declared.threads.Worked.{Worked}
use Rattle.seat_costs.specs.Idle.{HasShortCaches, IsIdle}

-- a seat of this heap that was opened just now, of which the root is one
pub record IsFreshSeatOf (shared : SharedView) (root : ℕ) (seat : SeatView) : Type 0 where
  pub of : IsSeatOf shared seat
  pub going : seat.view.stopped ≡ None
  pub idle : IsIdle seat.view
  pub short : HasShortCaches seat.view
  pub role_is : role seat.view ≡ no_role
  pub root_is : Contains seat.view.roots root

-- the seat has claimed nothing, and keeps no free block from others
pub record IsQuiet (v : View) : Type 0 where
  pub going : v.stopped ≡ None
  pub idle : IsIdle v
  pub empty : (class : ℕ) → IsClass class → of_class v.caches class ≡ []

-- the thread came to its end, and tells of this block
abbrev pub Tells : Result (List Block) AllocFault → Block → Type 0
Tells chain b = IsOkAnd chain (λ blocks. Contains blocks b)

-- each block that the thread tells of is held by its seat
abbrev pub AreHeldBy : View → Result (List Block) AllocFault → Type 0
AreHeldBy v chain = (b : Block) → Tells chain b → IsHeld v b

-- what a thread ends with: a seat of this heap, which holds the blocks that the thread tells of and is quiet where it came to its end
pub record HasWorked (shared : SharedView) (worked : Worked) : Type 0 where
  pub seat : IsSeatOf shared worked.seat
  pub role_is : role worked.seat.view ≡ no_role
  pub held : AreHeldBy worked.seat.view worked.chain
  pub quiet : OnOk worked.chain (IsQuiet worked.seat.view)
