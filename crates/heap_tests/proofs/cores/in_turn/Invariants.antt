use Rattle.std.proofs.Common.{◌≡◌, ◌<◌, length, All}
use Rattle.heap_tests.proofs.cores.in_turn.Given as goal

abbrev pub invariant-loop-i : goal.invariant-loop-i
invariant-loop-i l = (length l.owners.items ≡ l.i) × All (λ owner. owner < l.seats) l.owners.items
