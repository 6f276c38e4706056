-- What a store leaves for which a ticket was drawn.
use Rattle.std.specs.Prelude.{◌≡◌, ◌≢◌, ◌<◌, ◌≤◌, ◌⊎◌, ℕ, None, Some}
use Rattle.core_model.specs.Cells.{cell_at}
use Rattle.core_model.specs.Effects.{drew, stored, used_up}
use Rattle.core_model.specs.View.{View}
use Rattle.heap_rule.specs.Fences.{Owns}
use Rattle.seat_costs.specs.Rows.{next_of}
use Rattle.seat_costs.specs.Words.{KeepsWord, MayBe, left_at, seen_at}

-- a ticket was drawn and used up, and but for what is recorded of words the store alone changed the view: loads see the
-- value, a crash leaves what loads saw or it left before, and of all other own words what was known is known
pub record HasStored (word value : ℕ) (v w : View) : Type 0 where
  pub ran : v.stopped ≡ None
  pub going : w.stopped ≡ None
  pub room : v.draws < v.setup.budget
  pub ticket : ℕ
  pub later : next_of v ≤ ticket
  pub left : w ≡ record (stored (used_up (drew v ticket)) (cell_at v.setup.capacity word) value) { volatile = w.volatile; durable = w.durable }
  pub seen : seen_at w word ≡ Some value
  pub crash : (read : ℕ) → MayBe (left_at w word) read → MayBe (seen_at v word) read ⊎ MayBe (left_at v word) read
  pub words : (k : ℕ) → k ≢ word → Owns v k → KeepsWord v w k
