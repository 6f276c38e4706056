use Rattle.std.proofs.Common.{◌-◌}
use Rattle.seat_index.specs.Owned.{HaveOwnership}
use Rattle.seat_index.proofs.owned.own_range.Given as goal

abbrev pub invariant-loop-d : goal.invariant-loop-d
invariant-loop-d l = HaveOwnership l.initial.ownerships.items l.ownerships.items l.from (l.d - l.from) l.ownership
