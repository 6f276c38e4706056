use Rattle.std.proofs.Common.{◌≡◌, ◌-◌, take}
use Rattle.std.specs.List.{All}
use Rattle.filter_trace.specs.Walks.{IsExtended}
use Rattle.filter_trace.proofs.walk.follow_all.Given as goal

abbrev pub invariant-loop-next : goal.invariant-loop-next
invariant-loop-next g l = record {
  sound : g.W.Walk.sound l.walk l.found;
  grown : IsExtended (g.W.Walk.entries l.initial.found) (g.W.Walk.entries l.found);
  followed : All (g.W.Walk.followed l.walk l.found) (take l.next (g.W.Walk.entries l.found));
  most : g.W.Walk.most l.found ≡ g.W.Walk.most l.initial.found;
}

abbrev pub decreases-loop-next : goal.decreases-loop-next
decreases-loop-next g l = g.W.Walk.most l.initial.found - l.next
