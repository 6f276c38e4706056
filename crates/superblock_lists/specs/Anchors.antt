-- What a look at an anchor leaves of a seat.
use Rattle.std.specs.Prelude.{◌≡◌, ◌<◌, ℕ, Option, None, Some}
use Rattle.core_model.specs.View.{Snapshot, View}
use Rattle.seat_costs.specs.Rows.{parts}

-- the snapshot of an anchor
abbrev pub anchor_seen : ℕ → ℕ → Option Snapshot
anchor_seen d anchor = Some (record { of = d; word = anchor })

-- the anchor was seen just now
pub record HasSeenAnchor (d anchor : ℕ) (v w : View) : Type 0 where
  pub ran : v.stopped ≡ None
  pub going : w.stopped ≡ None
  pub room : v.draws < v.setup.budget
  pub more : v.draws < w.draws
  pub parts_are : parts w ≡ parts v
  pub is_seen : w.seen_anchor ≡ anchor_seen d anchor
