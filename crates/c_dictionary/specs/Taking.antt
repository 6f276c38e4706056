-- A dictionary that is taken out of its handle, to be closed.
use Rattle.std.specs.Prelude.{◌≡◌, ◌⊎◌, ℕ, Option, None, Some}
use Rattle.c_dictionary.specs.declared.images.Taken.{Taken}
use Rattle.c_dictionary.specs.declared.store.Store.{Store}
use Rattle.c_dictionary.specs.Images.{HasOtherLength}
use Rattle.c_dictionary.specs.Ready.{IsHeldAt}

-- the handle had it, in this state, and its image has so many bytes
pub record IsTaken (old : Option Store) (size : ℕ) (taken : Taken) : Type 0 where
  pub had : old ≡ Some taken.store
  pub held : IsHeldAt taken.state taken.store
  pub long : taken.store.length ≡ size

-- it had none, or its image has another length
abbrev pub IsNotTaken : Option Store → ℕ → ℕ → Type 0
IsNotTaken old size status = ((status ≡ 2) × (old ≡ None)) ⊎ ((status ≡ 13) × HasOtherLength old size)
