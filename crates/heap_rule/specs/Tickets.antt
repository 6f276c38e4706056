-- The tickets of a seat.
use Rattle.std.specs.Prelude.{ℕ, ◌+◌, Option, None, Some}
use Rattle.core_model.specs.View.{View}

-- the number after a ticket; 0 where there is none
abbrev pub after_ticket : Option ℕ → ℕ
after_ticket None = 0
after_ticket (Some ticket) = ticket + 1

-- the least ticket that the seat may still draw
abbrev pub next_of : View → ℕ
next_of v = after_ticket v.last_ticket
