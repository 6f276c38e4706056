-- What contracts see of a core: what it keeps of a state, and for how many steps it has room.
use Rattle.std.specs.Prelude.{ℕ}
use Rattle.crash_core.specs.declared.state.CoreState.{CoreState}

-- a core, and the room that it has left
pub record Opened : Type 0 where
  pub state : CoreState
  pub spare : ℕ
