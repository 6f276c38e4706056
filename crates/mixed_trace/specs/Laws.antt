-- How the modes of roots may be related.
use Rattle.std.specs.Prelude.{◌≡◌, ℕ, ◌<◌, ◌⊎◌}
use Rattle.heap_model.specs.Geometry.{roots}
use Rattle.mixed_trace.specs.declared.mode.Mode.{Mode}
use Rattle.mixed_trace.specs.declared.mode.Mode.TheVariants.{Kind, All}

-- each root has the kind
pub record HaveKinds (modes : ℕ → Mode) (kinds : ℕ → ℕ) : Type 0 where
  pub each : (root : ℕ) → root < roots → modes root ≡ Kind (kinds root)

-- no root has a filter
pub record HaveNoFilter (modes : ℕ → Mode) : Type 0 where
  pub each : (root : ℕ) → root < roots → modes root ≡ All

-- some roots have their filter no more
pub record HaveFewerFilters (modes fewer : ℕ → Mode) : Type 0 where
  pub each : (root : ℕ) → root < roots → (fewer root ≡ modes root) ⊎ (fewer root ≡ All)
