use Rattle.std.proofs.Common.{◌<◌, ℕ, All}
use Rattle.core_model.specs.declared.event.Event.{Event}
use Rattle.heap_tests.proofs.crashes.drawn.Given as goal

abbrev pub invariant-loop-line : goal.invariant-loop-line
invariant-loop-line l = All (λ (e : ℕ × Event). e.0 < l.seats) l.events.items
