-- A worker's tray: the parcels that came for it and are still to be brought in.
use Rattle.std.specs.Prelude.{◌≡◌, ℕ, ◌+◌, List, All, length}
use Rattle.seat_model.specs.CacheState.{CacheState}
use Rattle.seat_parcels.specs.declared.parcel.Parcel.{Parcel}
use Rattle.seat_parcels.specs.Parcels.{IsParcelOf}

-- of so many that came these are left: the seat may accept them, and has accepted the others, and nothing else
pub record IsInStepWith (came : ℕ) (left : List Parcel) (s : CacheState) : Type 0 where
  pub each : All (IsParcelOf s.table) left
  pub counted : s.view.accepts + length left ≡ came
