-- Seats that keep nothing back.
use Rattle.std.specs.Prelude.{◌≡◌, ℕ, []}
use Rattle.heap_model.specs.Sizes.{IsClass}
use Rattle.core_model.specs.View.{View, of_class}
use Rattle.seat_costs.specs.Idle.{IsIdle}

-- what is the seat's is held: nothing is claimed, batched or cached
pub record KeepsNothing (v : View) : Type 0 where
  pub idle : IsIdle v
  pub empty : (class : ℕ) → IsClass class → of_class v.caches class ≡ []
