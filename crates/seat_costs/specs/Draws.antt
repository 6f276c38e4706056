-- What chance may do at a draw.
use Rattle.std.specs.Prelude.{◌≡◌, ◌⊎◌, ℕ}
use Rattle.core_model.specs.declared.event.Event.TheVariants.{Settle}
use Rattle.core_model.specs.View.{View}
use Rattle.heap_rule.specs.Fences.{Owns, SettlesEarly}
use Rattle.heap_rule.specs.Seated.{SeatView}
use Rattle.heap_table.specs.Plays.{IsEvent}

-- nothing, or an own word is settled
abbrev pub Settles : View → View → Type 0
Settles v w = (w ≡ v) ⊎ ((word : ℕ) × Owns v word × ((found : ℕ) × IsEvent (Settle word) v found w))

-- chance gave a number, with which the word of one of the last stores was settled, where it is own; and what is
-- recorded of what a crash leaves is as that left it
pub record LeavesAsSettled {C : Type 0} (gives : C → ℕ → C → Type 0) (v w : SeatView) (old new : C) : Type 0 where
  pub number : ℕ
  pub given : gives old number new
  pub early : SeatView
  pub settled : SettlesEarly number v early
  pub left : w.view.durable ≡ early.view.durable
