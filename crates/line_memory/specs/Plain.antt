-- What contracts see of a memory for one thread, and of its source of chance.
use Rattle.std.specs.Prelude.{ℕ}
use Rattle.line_memory.specs.View.{View}
use Rattle.line_memory.specs.Steps.{TakesBy, RefusesBy}
use Rattle.line_memory.specs.LinesView.{lines_view}
use Rattle.line_memory.specs.declared.plain.PlainMemory.{PlainMemory}

-- a memory without its source of chance
abbrev pub view_of : {C : Type 0} → PlainMemory C → View
view_of m = lines_view m.lines

-- what draws of a source give: the source before, the number, the source after
abbrev pub Gives : Type 0 → Type 1
Gives C = C → ℕ → C → Type 0

-- its source of chance
abbrev pub chance_of : {C : Type 0} → PlainMemory C → C
chance_of m = m.chance

-- the number that its source gave between the one memory and the other
abbrev pub DrawsBy : {C : Type 0} → Gives C → PlainMemory C → PlainMemory C → ℕ → Type 0
DrawsBy gives m n number = gives m.chance number n.chance

-- it takes the step, with a number that its source gave
abbrev pub PlainTakes : {C : Type 0} → Gives C → (View → View → Type 0) → PlainMemory C → PlainMemory C → Type 0
PlainTakes gives step m n = TakesBy (λ r. gives m.chance r n.chance) step (view_of m) (view_of n)

-- it answers the ticket, and if it stops now, its source gave the number of that draw
abbrev pub PlainRefuses : {C : Type 0} → Gives C → ℕ → PlainMemory C → PlainMemory C → Type 0
PlainRefuses gives ticket m n =
    RefusesBy (λ r. gives m.chance r n.chance) ticket (view_of m) (view_of n)
