-- What a row of steps leaves, whatever it answers, and what it costs.
use Rattle.std.specs.Prelude.{◌≡◌, ◌≢◌, ◌<◌, ◌≤◌, ℕ, ◌+◌, ◌⊎◌, get_or, None, Some}
use Rattle.line_memory.specs.Marks.{IsMarked}
use Rattle.core_model.specs.Effects.{drew}
use Rattle.core_model.specs.View.{LastLook, View}
pub use Rattle.core_model.specs.View.{Parts, parts, Role, role}
use Rattle.heap_rule.specs.Fences.{Owns}
use Rattle.heap_rule.specs.Seated.{SeatView}
pub use Rattle.heap_rule.specs.Tickets.{after_ticket, next_of}
use Rattle.seat_costs.specs.Costs.{Costs, NoneFalls, RisesBy}
use Rattle.seat_costs.specs.Words.{IsDurableAt, IsHeldWord, KeepsWord}

-- the last look at a list
abbrev pub head_look : View → ℕ → LastLook
head_look v list = get_or v.head_looks list v.used_look

-- the look was made by one of the tickets from `from` until before `until`, when at least `least` and at most `most` superblocks had been taken
pub record IsMade (from until least most : ℕ) (look : LastLook) : Type 0 where
  pub ticket : ℕ
  pub by : look.ticket ≡ Some ticket
  pub since : from ≤ ticket
  pub below : ticket < until
  pub taken_least : least ≤ look.taken
  pub taken_most : look.taken ≤ most

-- the last look is as before, or was made in between
abbrev pub IsKeptOrMade : View → View → LastLook → LastLook → Type 0
IsKeptOrMade v w before now = (now ≡ before) ⊎ IsMade (next_of v) (next_of w) v.taken w.taken now

-- so is each last look; and what is known of `used` doesn't fall
pub record KeepsLooks (v w : View) : Type 0 where
  pub used : IsKeptOrMade v w v.used_look w.used_look
  pub heads : (list : ℕ) → IsKeptOrMade v w (head_look v list) (head_look w list)
  pub no_less : v.used_look.word + w.used_look.taken ≤ w.used_look.word + v.used_look.taken

-- the last looks stay
pub record SameLooks (v w : View) : Type 0 where
  pub used : w.used_look ≡ v.used_look
  pub heads : w.head_looks ≡ v.head_looks

-- what any row of steps leaves, whatever it answers, and what it costs; tickets rise by one at least for each that is drawn
pub record Passes (costs : Costs) (v w : View) : Type 0 where
  pub setup : w.setup ≡ v.setup
  pub roots : w.roots ≡ v.roots
  pub role_is : role w ≡ role v
  pub floor : v.floor ≤ w.floor
  pub next : next_of v ≤ next_of w
  pub tickets : w.draws + next_of v ≤ v.draws + next_of w
  pub more : NoneFalls v w
  pub most : RisesBy costs v w
  pub looks : KeepsLooks v w

-- besides, held blocks stay, and none of their words and of the roots is stored to
pub record ViewRow (costs : Costs) (v w : View) : Type 0 where
  pub passes : Passes costs v w
  pub small : w.small ≡ v.small
  pub large : w.large ≡ v.large
  pub words : (word : ℕ) → IsHeldWord v word → KeepsWord v w word

-- the pending write-back of each of these words stays, or a fence came in between
abbrev pub KeepsMarks : (ℕ → Type 0) → SeatView → SeatView → Type 0
KeepsMarks Kept v w = (word : ℕ) → Kept word → IsMarked v.marks word → IsMarked w.marks word ⊎ IsDurableAt w.view word

-- what a row of steps leaves that changes no held block and stores to no held word, and what it costs
pub record Row (costs : Costs) (v w : SeatView) : Type 0 where
  pub view : ViewRow costs v.view w.view
  pub marks : KeepsMarks (IsHeldWord v.view) v w

-- what a row of steps leaves that changes blocks or words but for these, and what it costs
pub record RowBut (Kept : ℕ → Type 0) (costs : Costs) (v w : SeatView) : Type 0 where
  pub passes : Passes costs v.view w.view
  pub words : (word : ℕ) → Kept word → KeepsWord v.view w.view word
  pub marks : KeepsMarks Kept v w

-- each word that was held and still is
abbrev pub IsHeldBoth : View → View → ℕ → Type 0
IsHeldBoth v w word = IsHeldWord v word × IsHeldWord w word

-- a row by which blocks are held or given back: the words of all others stay
abbrev pub HoldingRow : Costs → SeatView → SeatView → Type 0
HoldingRow costs v w = RowBut (IsHeldBoth v.view w.view) costs v w

-- a row that stores to a held word: the same blocks are held, and all their other words stay
pub record StoringRow (stored : ℕ) (costs : Costs) (v w : SeatView) : Type 0 where
  pub small : w.view.small ≡ v.view.small
  pub large : w.view.large ≡ v.view.large
  pub but : RowBut (λ word. IsHeldWord v.view word × (word ≢ stored)) costs v w

-- the seat has stopped at the step, which it drew last and which is not below the budget; nothing changes where it had stopped before
pub record Stops (step : ℕ) (v w : View) : Type 0 where
  pub at : w.stopped ≡ Some step
  pub budget : v.setup.budget ≤ step
  pub last : w.last_ticket ≡ Some step
  pub now : v.stopped ≡ None → next_of v ≤ step
  pub before : (ticket : ℕ) → v.stopped ≡ Some ticket → w ≡ v

-- a ticket is in hand; and of own words, what was known is known
pub record HasDrawn (v w : View) : Type 0 where
  pub went : v.stopped ≡ None
  pub ticket : ℕ
  pub left : w ≡ record (drew v ticket) { volatile = w.volatile; durable = w.durable }
  pub words : (word : ℕ) → Owns v word → KeepsWord v w word
  pub later : next_of v ≤ ticket
  pub room : v.draws < v.setup.budget
