use Rattle.std.proofs.Common.{◌-◌}
use Rattle.seat_state.specs.Superblocks.{IsRange}
use Rattle.seat_state.proofs.opened_superblocks.give_range.Given as goal

abbrev pub invariant-loop-d : goal.invariant-loop-d
invariant-loop-d l = IsRange l.initial.owners.items l.owners.items l.from (l.d - l.from) l.owner
