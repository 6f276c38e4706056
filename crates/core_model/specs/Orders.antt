-- Seats in another order.
use Rattle.std.specs.Prelude.{◌≡◌, ℕ, List, Contains}
use Rattle.heap_model.specs.Counting.{total}
use Rattle.core_model.specs.View.{View}

-- the same seats in another order: each sum over them is the same, and none is new
pub record AreReordered (old new : List View) : Type 0 where
  pub sums : (f : View → ℕ) → total f new ≡ total f old
  pub members : (v : View) → Contains new v → Contains old v
