-- How many numbers chance was asked for.
use Rattle.std.specs.Prelude.{◌≡◌, ◌≤◌, ℕ, zero, suc, ◌-◌}
use Rattle.core_model.specs.View.{View}

-- chance was asked for so many numbers, one after the other, from this chance to that
abbrev pub AsksFor : {C : Type 0} → (C → ℕ → C → Type 0) → ℕ → C → C → Type 0
AsksFor gives zero old new = new ≡ old
AsksFor {C} gives (suc n) old new = (next : C) × ((number : ℕ) × gives old number next) × AsksFor gives n next new

-- it was asked for as many as tickets were drawn between the views
pub record HasAsked {C : Type 0} (gives : C → ℕ → C → Type 0) (v w : View) (old new : C) : Type 0 where
  pub drew : v.draws ≤ w.draws
  pub asks : AsksFor gives (w.draws - v.draws) old new
