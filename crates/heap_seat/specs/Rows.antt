-- What a row of calls of a seat does, whatever they answer.
use Rattle.std.specs.Prelude.{ℕ, ◌+◌, ◌≤◌, Contains}
use Rattle.heap_seat.specs.View.{View}
use Rattle.heap_seat.specs.Words.{IsOwn, IsDurable}
use Rattle.heap_seat.specs.Calls.{GoesOn}
use Rattle.heap_seat.specs.Looks.{KeepsLooks}

-- a row of at most so many small and so many large calls, which takes at most so many superblocks
pub record IsRow (small large most : ℕ) (v w : View) : Type 0 where
  pub goes_on : GoesOn v w
  pub small_from : v.small_calls ≤ w.small_calls
  pub small_few : w.small_calls ≤ v.small_calls + small
  pub large_from : v.large_calls ≤ w.large_calls
  pub large_few : w.large_calls ≤ v.large_calls + large
  pub taken : v.taken ≤ w.taken
  pub few : w.taken ≤ v.taken + most
  pub looks : KeepsLooks v w

-- each own word that was pending is durable
pub record Settles (v w : View) : Type 0 where
  pub each : (word : ℕ) → IsOwn v.held v.roots word → Contains v.pending word → IsDurable w word
