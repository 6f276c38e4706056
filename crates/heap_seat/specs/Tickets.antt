-- Tickets, and what a call does with them.
use Rattle.std.specs.Prelude.{◌≡◌, ℕ, ◌+◌, ◌<◌, ◌≤◌, None, Some}
use Rattle.heap_seat.specs.View.{View}

-- the ticket was drawn by the call between these views: a seat's tickets rise
pub record IsDrawn (v w : View) (ticket : ℕ) : Type 0 where
  pub from : v.next ≤ ticket
  pub until : ticket < w.next

-- the call was done: it drew at least one ticket, all below the budget, and the seat runs on
pub record Runs (v w : View) : Type 0 where
  pub ran : v.stopped ≡ None
  pub running : w.stopped ≡ None
  pub drew : v.next < w.next
  pub below : w.next ≤ w.budget

-- the call answered this ticket in place of being done: it drew it now, as the last one, and the budget doesn't allow it; or it had stopped at
-- it and nothing changes
pub record Stops (ticket : ℕ) (v w : View) : Type 0 where
  pub stopped : w.stopped ≡ Some ticket
  pub above : w.budget ≤ ticket
  pub last : w.next ≡ ticket + 1
  pub now : v.stopped ≡ None → IsDrawn v w ticket
  pub before : (at : ℕ) → v.stopped ≡ Some at → (ticket ≡ at) × (w ≡ v)
