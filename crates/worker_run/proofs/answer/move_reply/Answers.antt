use Rattle.std.proofs.Common.{Some, subst, sym}
use Rattle.dict_model.specs.Requests.{move}
use Rattle.shard_moves.specs.declared.away.MoveAnswer.{MoveAnswer}
use Rattle.shard_moves.specs.Moves.{reply_of as reply_to}
use Rattle.worker_run.specs.Said.{Told, reply_of}
use Rattle.worker_run.specs.Sending.{HasSent}
use Rattle.worker_run.proofs.SentLemmas.{move_sends}
use Rattle.worker_run.proofs.answer.move_reply.Goals as goal
use Rattle.worker_run.proofs.answer.move_reply.Goals.{in-Done, in-Full, in-Missing}

pub returns-clause-sent : goal.returns-clause-sent
returns-clause-sent g c =
    let v = g.H.HeapSeat.view c.args.seat.now in
    let old = g.O.Outbox.sent c.args.outbox.now in
    let new = g.O.Outbox.sent c.move_away.new.outbox in
    let sent = move_sends c.args.number c.args.key c.args.to c.in_ok-answer.answer old new v c.in_ok-answer.ensures.sent in
    elim c.match-answer.branch as (λ _. HasSent c.args.number (move c.args.key c.args.to) (reply_of c.match-answer.result) old new v) [
      | in-Done w ↦ subst (λ (t : Told). HasSent c.args.number (move c.args.key c.args.to) (reply_of t) old new v) (sym w.result-is)
          (subst (λ (a : MoveAnswer). HasSent c.args.number (move c.args.key c.args.to) (Some (reply_to a)) old new v) w.in-Done.is sent)
      | in-Full w ↦ subst (λ (t : Told). HasSent c.args.number (move c.args.key c.args.to) (reply_of t) old new v) (sym w.result-is)
          (subst (λ (a : MoveAnswer). HasSent c.args.number (move c.args.key c.args.to) (Some (reply_to a)) old new v) w.in-Full.is sent)
      | in-Missing w ↦ subst (λ (t : Told). HasSent c.args.number (move c.args.key c.args.to) (reply_of t) old new v) (sym w.result-is)
          (subst (λ (a : MoveAnswer). HasSent c.args.number (move c.args.key c.args.to) (Some (reply_to a)) old new v) w.in-Missing.is sent)
    ]
