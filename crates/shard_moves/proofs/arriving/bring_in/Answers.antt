use Rattle.std.proofs.Common.{Bool, subst, sym}
use Rattle.shard_moves.specs.Arriving.{ArrivesNext}
use Rattle.shard_moves.proofs.ArrivalLemmas.{on_err_all}
use Rattle.shard_moves.proofs.BroughtLemmas.{HasBrought, brought_none, brought_on, stopped_on, calls_stopped, answered_all}
use Rattle.shard_moves.proofs.arriving.bring_in.Goals as goal

pub loop-init : goal.loop-init
loop-init g c = record {
  brought = brought_none g.H.HeapSeat.view g.I.Inbox.goes g.H.HeapSeat.has_none (g.I.Inbox.left c.args.inbox.now) c.args.seat.now
      (g.met.I.Inbox.goes_none c.args.seat.now) c.requires.tables;
  ready = c.requires.ready;
}

pub loop-preserved : goal.loop-preserved
loop-preserved g c = record {
  brought = brought_on g.H.HeapSeat.view g.I.Inbox.goes g.H.HeapSeat.has_none g.met.I.Inbox.goes_then (g.I.Inbox.left c.args.inbox.now)
      (g.I.Inbox.left c.loop.inbox) c.args.seat.now c.loop.seat
      c.loop.invariant.brought (g.met.H.HeapSeat.seat c.loop.seat) (g.I.Inbox.left c.bring_next.new.inbox) c.bring_next.new.seat
      (subst (λ (b : Bool). ArrivesNext g.H.HeapSeat.view b (g.I.Inbox.left c.loop.inbox)
      (g.I.Inbox.left c.bring_next.new.inbox) c.loop.seat c.bring_next.new.seat) c.if-branch.true c.in_ok-bring_next.ensures.ok)
      c.bring_next.ensures.goes_on c.bring_next.ensures.refusals c.bring_next.ensures.taken c.in_ok-bring_next.ensures.exact;
  ready = c.bring_next.ensures.ready_on;
}

pub returns-in_err-bring_next-clause-stopped : goal.returns-in_err-bring_next-clause-stopped
returns-in_err-bring_next-clause-stopped g c =
    on_err_all c.from_residual.result
    (stopped_on g.H.HeapSeat.view g.I.Inbox.goes g.H.HeapSeat.has_none g.met.I.Inbox.goes_then (g.I.Inbox.left c.args.inbox.now)
    (g.I.Inbox.left c.loop.inbox) c.args.seat.now c.loop.seat
    c.loop.invariant.brought (g.met.H.HeapSeat.seat c.loop.seat) (g.I.Inbox.left c.bring_next.new.inbox)
    c.bring_next.new.seat c.in_err-bring_next.ensures.stopped c.bring_next.ensures.goes_on)

pub returns-in_err-bring_next-clause-calls : goal.returns-in_err-bring_next-clause-calls
returns-in_err-bring_next-clause-calls g c =
    calls_stopped g.H.HeapSeat.view g.I.Inbox.goes g.H.HeapSeat.has_none g.met.I.Inbox.goes_then (g.I.Inbox.left c.args.inbox.now)
    (g.I.Inbox.left c.loop.inbox) c.args.seat.now c.loop.seat
    c.loop.invariant.brought (g.met.H.HeapSeat.seat c.loop.seat) (g.I.Inbox.left c.bring_next.new.inbox)
    c.bring_next.new.seat c.in_err-bring_next.ensures.stopped c.bring_next.ensures.goes_on

pub returns-clause-answered : goal.returns-clause-answered
returns-clause-answered g c =
    let ends = subst (λ (b : Bool). ArrivesNext g.H.HeapSeat.view b (g.I.Inbox.left c.loop.inbox)
    (g.I.Inbox.left c.bring_next.new.inbox) c.loop.seat c.bring_next.new.seat) c.if-branch.false c.in_ok-bring_next.ensures.ok in
    let was = subst (λ x. HasBrought g.H.HeapSeat.view g.I.Inbox.goes g.H.HeapSeat.has_none (g.I.Inbox.left c.args.inbox.now)
    (g.I.Inbox.left c.loop.inbox) c.args.seat.now x) (sym ends.2) c.loop.invariant.brought in
    answered_all g.H.HeapSeat.view g.I.Inbox.goes g.H.HeapSeat.has_none g.met.I.Inbox.goes_then (g.I.Inbox.left c.args.inbox.now)
    (g.I.Inbox.left c.loop.inbox) c.args.seat.now c.bring_next.new.seat
    was (g.met.H.HeapSeat.seat c.bring_next.new.seat) ends.0
