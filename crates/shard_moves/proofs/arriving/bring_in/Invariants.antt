use Rattle.std.proofs.Common.{length}
use Rattle.shard_moves.proofs.BroughtLemmas.{HasBrought}
use Rattle.shard_moves.proofs.arriving.bring_in.Given as goal

abbrev pub invariant-loop : goal.invariant-loop
invariant-loop g l = record {
  brought : HasBrought g.H.HeapSeat.view g.I.Inbox.goes g.H.HeapSeat.has_none (g.I.Inbox.left l.initial.inbox)
      (g.I.Inbox.left l.inbox) l.initial.seat l.seat;
  ready : g.I.Inbox.ready l.inbox l.seat;
}

-- what is left
abbrev pub decreases-loop : goal.decreases-loop
decreases-loop g l = length (g.I.Inbox.left l.inbox)
