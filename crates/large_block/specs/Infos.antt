-- What the storing of an info leaves of a seat.
use Rattle.std.specs.Prelude.{◌≡◌, ◌≢◌, ℕ, None}
use Rattle.heap_model.specs.Geometry.{info_word}
use Rattle.core_model.specs.Cells.{info_cell}
use Rattle.core_model.specs.View.{View}
use Rattle.heap_rule.specs.Fences.{Owns}
use Rattle.heap_rule.specs.Shown.{Shows, ShowsDurable}
use Rattle.seat_costs.specs.Rows.{parts}
use Rattle.seat_costs.specs.Words.{KeepsWord}

-- the info of superblock d is this, and durably; of all other own words what was known is known
pub record HasInfo (d info : ℕ) (v w : View) : Type 0 where
  pub ran : v.stopped ≡ None
  pub going : w.stopped ≡ None
  pub parts_are : parts w ≡ parts v
  pub floor : w.floor ≡ v.floor
  pub look : w.used_look ≡ v.used_look
  pub losses : w.losses ≡ v.losses
  pub heads : w.head_looks ≡ v.head_looks
  pub info_is : Shows w (info_cell d) info
  pub durable_info_is : ShowsDurable w (info_cell d) info
  pub words : (word : ℕ) → word ≢ info_word d → Owns v word → KeepsWord v w word
