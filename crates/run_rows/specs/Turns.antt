-- The workers of a run in their turn.
use Rattle.std.specs.Prelude.{◌≡◌, ℕ, ◌+◌, ◌<◌, List, length, get_or}
use Rattle.worker_run.specs.declared.worker.Worker.{Worker}

-- what belongs to workers, of which there are so many, the last one first
pub record AreInTurn {X : Type 0} (worker : X → Worker) (workers : ℕ) (xs : List X) : Type 0 where
  pub each : (i : ℕ) (any : X) → i < length xs → ((worker (get_or xs i any)).workers ≡ workers) × ((worker (get_or xs i any)).number + i + 1 ≡ workers)
