-- A request that was turned down within a call was so within the calls around it.
use Rattle.std.proofs.Common.{◌≡◌, ℕ, Result, Ok, Err, IfErr, refl}
use Rattle.heap_seat.specs.declared.fault.AllocFault.{AllocFault}
use Rattle.heap_seat.specs.declared.fault.AllocFault.TheVariants.{Full, Stopped}
use Rattle.heap_seat.specs.declared.fault.Looks.{Looks}
use Rattle.heap_seat.specs.View.{View}
use Rattle.dict_requests.specs.Puts.{PutFails, WasTurnedDown}

module _ {S : Type 0} (keeps : S → S → Type 0) (has_none : S → S → ℕ → Looks → Type 0) where
  -- by the heap's own call
  pub turned_down : ((s : S) → keeps s s) → (bytes : ℕ) (looks : Looks) (s t : S) → has_none s t bytes looks
      → WasTurnedDown keeps has_none bytes looks s t
  turned_down same bytes looks s t none = record { before = s; after = t; kept_before = same s; none = none; kept_after = same t }

  module _ (row : (s t u : S) → keeps s t → keeps t u → keeps s u) where
    -- behind other calls
    pub turned_down_behind : (bytes : ℕ) (looks : Looks) (s t u : S) → keeps s t → WasTurnedDown keeps has_none bytes looks t u
        → WasTurnedDown keeps has_none bytes looks s u
    turned_down_behind bytes looks s t u kept down = record {
      before = down.before;
      after = down.after;
      kept_before = row s t down.before kept down.kept_before;
      none = down.none;
      kept_after = down.kept_after;
    }

    -- a refused request of a put is the seat's last one
    pub last_turned_down : (bytes : ℕ) (fault : AllocFault) (v w : View) (s t u : S) → keeps s t → PutFails bytes fault v w
        → ((found : Looks) → fault ≡ Full found → WasTurnedDown keeps has_none bytes found t u)
        → (looks : Looks) → fault ≡ Full looks → WasTurnedDown keeps has_none w.refused_bytes w.refused_looks s u
    last_turned_down bytes (Full found) v w s t u kept fails down looks is =
        rw (fails.0.bytes_are, fails.0.looks_are) (turned_down_behind bytes found s t u kept (down found refl))
    last_turned_down bytes (Stopped stopped) v w s t u kept fails down looks is = absurd (cc)

    pub ends_turned_down : {A : Type 0} (result : Result A AllocFault) (bytes : ℕ) (v w : View) (s t u : S) → keeps s t
        → IfErr result (λ fault. PutFails bytes fault v w)
        → IfErr result (λ fault. (found : Looks) → fault ≡ Full found → WasTurnedDown keeps has_none bytes found t u)
        → IfErr result (λ fault. (looks : Looks) → fault ≡ Full looks → WasTurnedDown keeps has_none w.refused_bytes w.refused_looks s u)
    ends_turned_down (Ok done) bytes v w s t u kept fails down = tt
    ends_turned_down (Err fault) bytes v w s t u kept fails down = last_turned_down bytes fault v w s t u kept fails down
